pub mod Books
pub mod BookLaws
pub mod Kinds
pub mod Resolving
pub mod ResolvingSound
pub mod Trying
pub mod Deciding
pub mod TryingSound

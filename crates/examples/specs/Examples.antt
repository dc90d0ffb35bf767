-- The worked examples.
use Rattle.examples.specs.Books.{OnBooks}
use Rattle.examples.specs.Giving.{OnGiving}
use Rattle.examples.specs.Showing.{OnRuns}
use Rattle.examples.specs.Refuting.{ReachesContradiction}

abbrev pub Examples : Type 0
Examples = OnBooks × OnGiving × OnRuns × ReachesContradiction

use Rattle.std.proofs.Common.{refl}
use Rattle.clause.specs.Bit.{bit}
use Rattle.rules.specs.Trying.{how_many}
use Rattle.rules.specs.Deciding.{some_to}
use Rattle.examples.specs.Books.{OnBooks}
use Rattle.examples.proofs.Giving.{on_giving}
use Rattle.examples.proofs.Showing.{meets_start, ends_free, comes_again, gone_for_good}
use Rattle.examples.proofs.Timing.{has_lengths, too_long_by_one}
use Rattle.examples.proofs.Refuting.{reaches_contradiction}
use Rattle.examples.proofs.examples_stand.Goals as goal

on-books : OnBooks
unfolding bit how_many some_to
on-books = (refl, refl, refl, refl, refl, refl)

pub returns : goal.returns
returns c = (on-books, on_giving, (meets_start, ends_free, comes_again, gone_for_good, has_lengths, too_long_by_one), reaches_contradiction)

-- `wildmatch::mode_of` meets its contract: each field is its flag.
use Rattle.wildmatch.specs.Answers.{mode_of}
use borrow.Author.Rules.{rules}
use Rattle.wildmatch.proofs.mode_of.Goals as goal

pub returns : goal.returns
unfolding mode_of
returns c = rw (c.flag_one.ensures, c.flag_two.ensures) (search rules)

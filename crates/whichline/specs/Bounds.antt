-- What is read comes from the outside, and no contract can say it. What can be said is that it stays within the buffers that were lent.
use Rattle.std.specs.Prelude.{◌≤◌, ◌≡◌, List, ℕ, length}
use Rattle.whichline.specs.declared.listing.Unread.{Unread}
use Rattle.whichline.specs.declared.arguments.Question.{Question}
use Rattle.whichline.specs.declared.arguments.Question.TheVariants.{Ignore, Attribute}

-- what is unread stands at the front of the buffer
abbrev pub AtFront : Unread → List ℕ → Type 0
AtFront u buffer = (u.start ≡ 0) × (u.have ≤ length buffer)

-- an attribute's name stands within the buffer
abbrev pub Named : Question → List ℕ → Type 0
Named Ignore buffer = Unit {0}
Named (Attribute name) buffer = length name.now ≤ length buffer

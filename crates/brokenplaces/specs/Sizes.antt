-- How many bytes a class is written with.
use Rattle.std.specs.Prelude.{ℕ, Option, None, Some}
use Rattle.classes.specs.Members.{Class}

-- how many bytes the class that was read is written with after its `[`; none: broken
unfoldable pub class_size : Option Class → Option ℕ
class_size None = None
class_size (Some c) = Some c.size

-- Why the status of a link changed, and what an entry of the record tells of it (document 02, [2]). Definitions only.
use Rattle.std.specs.Prelude.{ℕ, ◌+◌, ◌*◌, ◌%◌, None, Some, Option}
use Rattle.links.specs.declared.LinkIndex.{LinkIndex}
use Rattle.causes.specs.declared.Cause.{Cause}
use Rattle.causes.specs.declared.Cause.TheVariants as cause

-- what is told of the links that changed: the lowest and its cause
abbrev pub Flip : Type 0
Flip = Option (LinkIndex × Cause)

-- the causes, 0 to 4 in document 02's order
unfoldable pub cause_code : Cause → ℕ
cause_code cause.None = 0
cause_code cause.ReverseFlow = 1
cause_code cause.InletTooLow = 2
cause_code cause.OutletTooHigh = 3
cause_code cause.Reopened = 4

-- links change in ascending order, so the first that is told is the lowest
unfoldable pub first_flip : Flip → ℕ → Cause → Flip
first_flip None j c = Some (record { 0 = j }, c)
first_flip (Some (i, b)) j c = Some (i, b)

-- the link's number plus 1 in the low byte, 0 for none; the cause in the high byte
unfoldable pub flip_number : Flip → ℕ
unfolding cause_code
flip_number None = 0
flip_number (Some (i, c)) = (i.0 + 1) % 256 + 256 * cause_code c

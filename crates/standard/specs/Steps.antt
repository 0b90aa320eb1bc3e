-- What a run of steps did, by what one step may answer and leave. Definitions only.
use Rattle.std.specs.Prelude.{ℕ, zero, suc, ◌<◌, ◌≡◌, ◌⊎◌, Bool, true, false, Ok, Err}
use Rattle.std.specs.declared.result.Result.{Result}

-- n steps, each of which said that more follow
abbrev pub More : {F E : Type 0} → (F → Result Bool E → F → Type 0) → ℕ → F → F → Type 0
More step zero first last = first ≡ last
More {F} step (suc n) first last = (f : F) × More step n first f × step f (Ok true) last

-- one said that it was the last, or all that may be taken were
abbrev pub Done : {F E : Type 0} → (F → Result Bool E → F → Type 0) → ℕ → F → Type 0
Done {F} step most first = ((n : ℕ) × (n < most) × (f : F) × More step n first f × (last : F) × step f (Ok false) last) ⊎ ((last : F) × More step most first last)

-- one failed with this error
abbrev pub Failed : {F E : Type 0} → (F → Result Bool E → F → Type 0) → ℕ → F → E → Type 0
Failed {F} step most first e = (n : ℕ) × (n < most) × (f : F) × More step n first f × (last : F) × step f (Err e) last

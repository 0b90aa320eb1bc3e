-- A column made from another entry by entry, over plain variables. Assumes nothing.
use Prim.Native.Nat.{ℕ, ◌<◌}
use mathlib.Core.Path.{◌≡◌, sym, ◌∙◌}
use mathlib.Core.List.{List, map}
use lib.ListN.{length, get_or, length-map, get_or-map}
use Rattle.std.proofs.lemmas.List.{ext_get_or}

pub mapped : {A B : Type 0} (f : A → B) (xs : List A) (ys : List B) (d : A) (n : ℕ) → length xs ≡ n → length ys ≡ n → ((i : ℕ) → i < n → get_or ys i (f d) ≡ f (get_or xs i d)) → ys ≡ map f xs
mapped f xs ys d n long same each =
    ext_get_or (f d) ys (map f xs) (same ∙ sym long ∙ sym (length-map xs f)) (λ i h. each i (rw same at h) ∙ sym (get_or-map f xs i d))

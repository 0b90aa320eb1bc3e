-- What several reads, one behind the other, do to a reader's bytes. Assumes nothing.
use Prim.Native.Nat.{ℕ, ◌+◌, ◌≤◌}
use mathlib.Core.Path.{◌≡◌, refl, sym, ap, ◌∙◌, subst}
use mathlib.Core.List.{List, [], ◌++◌}
use lib.ListN.{length, take, drop}
use native.Mathlib.Omega.{arith}
use lib.Seq.{length-take-le, take-add}
use Rattle.std.specs.Prelude.{None, Some}
use Rattle.std.specs.declared.option.Option.{Option}
use Rattle.std.proofs.lemmas.List.{append_assoc}
use Rattle.std.specs.Counts.{IsPrefixLen}
use Rattle.std.specs.Io.KnownBytes.{Consumes}

pub prefix_len_of_le : (n : ℕ) (xs : List ℕ) → n ≤ length xs → IsPrefixLen n xs
prefix_len_of_le n xs h = (h, sym (length-take-le n xs h))

pub consumes_nil : (a : Option (List ℕ)) → Consumes a a []
consumes_nil None = tt
consumes_nil (Some x) = refl

pub consumes_then : (a b c : Option (List ℕ)) (bs cs : List ℕ) → Consumes a b bs → Consumes b c cs → Consumes a c (bs ++ cs)
consumes_then None b c bs cs p q = tt
consumes_then (Some x) None c bs cs p q = absurd p
consumes_then (Some x) (Some y) None bs cs p q = absurd q
consumes_then (Some x) (Some y) (Some z) bs cs p q = p ∙ ap (λ l. bs ++ l) q ∙ sym (append_assoc bs cs z)

-- a read that keeps the first `done` bytes of the buffer and puts its own behind them
pub consumes_more : (a b c : Option (List ℕ)) (done more : ℕ) (old new : List ℕ) → take done new ≡ take done old
    → Consumes a b (take done old) → Consumes b c (take more (drop done new)) → Consumes a c (take (done + more) new)
consumes_more a b c done more old new front first second =
    let whole : take (done + more) new ≡ take done old ++ take more (drop done new) = take-add done more new ∙ ap (λ l. l ++ take more (drop done new)) front in
    subst (Consumes a c) (sym whole) (consumes_then a b c _ _ first second)

-- the same where the read gave nothing
pub consumes_none : (a b c : Option (List ℕ)) (done more : ℕ) (old new : List ℕ) → more ≡ 0 → take done new ≡ take done old
    → Consumes a b (take done old) → Consumes b c (take more (drop done new)) → Consumes a c (take done new)
consumes_none a b c done more old new none front first second =
    let same : done + more ≡ done = omega arith in
    subst (Consumes a c) (ap (λ n. take n new) same) (consumes_more a b c done more old new front first second)

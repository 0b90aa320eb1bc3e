-- Every link of sound numbers but an Active PRV or PSV conducts. Assumes nothing.
use mathlib.Core.Path.{◌≡◌, refl, sym, ◌∙◌, subst}
use mathlib.Core.Bool.{false}
use lib.Dec.{T}
use lib.Ieee.{Float, binary64, fits}
use Rattle.float.specs.Order.{wild_of}
use Rattle.codes.specs.declared.LinkKind.{LinkKind}
use Rattle.codes.specs.declared.LinkKind.TheVariants.{Pipe, Prv, Psv, Pbv, Fcv, Tcv, Pcv}
use Rattle.codes.specs.declared.Status.{Status}
use Rattle.records.specs.declared.records.Link.{Link}
use Rattle.pipes.specs.Pipe.{pipe_of}
use Rattle.valves.specs.Valve.{valve_of}
use Rattle.model.specs.Rules.{by_kind, coefficients_of}
use Rattle.conductances.specs.Conductances.{Sound, Conducts, regulates, LinkConducts}
use Rattle.conductances.proofs.Numbers.{within_size}
use Rattle.conductances.proofs.Valves.{valve_conducts_lem}
use Rattle.conductances.proofs.Pipes.{pipe_conducts_lem}

-- a pipe is none of the others
abbrev Piped : LinkKind → Type 0
Piped Pipe = Unit {0}
Piped Prv = ⊥
Piped Psv = ⊥
Piped Pbv = ⊥
Piped Fcv = ⊥
Piped Tcv = ⊥
Piped Pcv = ⊥

piped : (kind : LinkKind) → kind ≡ Pipe → Piped kind
piped kind e = subst Piped (sym e) tt

by_kind_lem : (k : Link) (status : Status) (q excessUp excessDown up down : Float) → Sound k → T (fits binary64 q) → wild_of q ≡ false → regulates k.kind status ≡ false
    → (kind : LinkKind) → k.kind ≡ kind
    → Conducts (by_kind kind (pipe_of k.check k.minor k.resistance status q) (valve_of k status q excessUp excessDown up down))
by_kind_lem k status q excessUp excessDown up down s held tame r = go
  where
    valve : (kind : LinkKind) → k.kind ≡ kind → (Piped kind → ⊥) → Conducts (valve_of k status q excessUp excessDown up down)
    valve kind e n = valve_conducts_lem k s (λ p. n (piped kind (sym e ∙ p))) q excessUp excessDown up down tame status r

    go : (kind : LinkKind) → k.kind ≡ kind → Conducts (by_kind kind (pipe_of k.check k.minor k.resistance status q) (valve_of k status q excessUp excessDown up down))
    go Pipe e = pipe_conducts_lem k.minor k.resistance q (within_size k.minor s.minor) (within_size k.resistance s.resistance) held tame k.check status
    go Prv e = valve Prv e (λ n. n)
    go Psv e = valve Psv e (λ n. n)
    go Pbv e = valve Pbv e (λ n. n)
    go Fcv e = valve Fcv e (λ n. n)
    go Tcv e = valve Tcv e (λ n. n)
    go Pcv e = valve Pcv e (λ n. n)

pub link_conducts : LinkConducts
unfolding coefficients_of
link_conducts k status q excessUp excessDown up down s held tame r = by_kind_lem k status q excessUp excessDown up down s held tame r k.kind refl

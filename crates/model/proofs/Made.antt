-- The decision over the kind, over plain variables. Assumes nothing.
use mathlib.Core.Path.{◌≡◌}
use mathlib.Core.List.{[], ◌∷◌}
use types.Run.{OneOf}
use lib.Ieee.{Float}
use Rattle.codes.specs.Codes.{link_kind_of}
use Rattle.codes.specs.declared.Status.{Status}
use Rattle.codes.specs.declared.LinkKind.{LinkKind}
use Rattle.records.specs.declared.records.Link.{Link}
use Rattle.coefficient.specs.declared.Coefficients.{Coefficients}
use Rattle.pipes.specs.Pipe.{pipe_of}
use Rattle.valves.specs.Valve.{valve_of}
use Rattle.status.proofs.Cases.{kind_tag, of_kind}
use Rattle.model.specs.Rules.{by_kind, coefficients_of}

pub of_valve : (l : Link) (s : Status) (q x y u d : Float) (c : Coefficients) → OneOf (1 ∷ 2 ∷ 3 ∷ 4 ∷ 5 ∷ 6 ∷ []) (kind_tag l.kind) → c ≡ valve_of l s q x y u d → c ≡ coefficients_of l s q x y u d
unfolding coefficients_of link_kind_of
of_valve l s q x y u d c h e =
    of_kind (λ (k : LinkKind). c ≡ by_kind k (pipe_of l.check l.minor l.resistance s q) (valve_of l s q x y u d)) (1 ∷ 2 ∷ 3 ∷ 4 ∷ 5 ∷ 6 ∷ []) l.kind h (e, (e, (e, (e, (e, (e, tt))))))

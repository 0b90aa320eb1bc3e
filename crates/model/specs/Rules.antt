-- link.rs: one decision over the link's kind. Definitions only.
use Rattle.std.specs.Prelude.{Float}
use Rattle.codes.specs.declared.LinkKind.{LinkKind}
use Rattle.codes.specs.declared.LinkKind.TheVariants.{Pipe, Prv, Psv, Pbv, Fcv, Tcv, Pcv}
use Rattle.codes.specs.declared.Status.{Status}
use Rattle.records.specs.declared.records.Link.{Link}
use Rattle.pipes.specs.Pipe.{pipe_of}
use Rattle.valves.specs.Valve.{valve_of}
use Rattle.coefficient.specs.declared.Coefficients.{Coefficients}

-- a pipe has the pipe's coefficients, every other kind the valve's
abbrev pub by_kind : LinkKind → Coefficients → Coefficients → Coefficients
by_kind Pipe p v = p
by_kind Prv p v = v
by_kind Psv p v = v
by_kind Pbv p v = v
by_kind Fcv p v = v
by_kind Tcv p v = v
by_kind Pcv p v = v

-- `Link::coefficients`, at the solve's own status and flow
unfoldable pub coefficients_of : Link → Status → Float → Float → Float → Float → Float → Coefficients
coefficients_of l status q excessUp excessDown up down =
    by_kind l.kind (pipe_of l.check l.minor l.resistance status q) (valve_of l status q excessUp excessDown up down)

-- `drawn_laws::first_ill` meets its contract: the closure tests what the definition does. Assumes nothing.
use Rattle.std.proofs.Common.{rules}
use Rattle.drawn_laws.specs.DrawnLaws.{ill_at, first_ill}
use Rattle.drawn_laws.proofs.first_ill.Goals as goal

pub returns : goal.returns
unfolding first_ill
returns c = c.first_where.ensures (ill_at c.args.sheet.now c.args.l c.args.p c.args.heads.now c.args.drawn.now c.args.flow) (λ i b h p. search rules)

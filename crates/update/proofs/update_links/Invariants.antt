-- `update::update_links` meets its contract. Assumes nothing.
use Rattle.update.proofs.Made.{Upto, updates_none, updates_next, updates_all}
use Rattle.update.specs.Update.{basis}
use native.Mathlib.Omega.{arith}
use Prim.Native.Nat.{◌-◌}
use mathlib.Core.Path.{◌≡◌, refl}
use Rattle.update.proofs.update_links.Given as goal

abbrev pub invariant-loop-j : goal.invariant-loop-j
invariant-loop-j l =
    Upto l.sheet l.l (basis l.heads l.g l.y l.factor) l.initial.flows l.initial.statuses l.flows l.statuses (record { stats = record { moved = l.moved; total = l.total; largest = l.largest; changed = l.changed }; flip = l.flip }) l.j

abbrev pub decreases-loop-j : goal.decreases-loop-j
decreases-loop-j l = l.l.links - l.j

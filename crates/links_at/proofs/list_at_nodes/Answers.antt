-- `links_at::list_at_nodes` meets its contract: the columns list what the links do. Assumes nothing.
use borrow.Author.Rules.{rules}
use native.Mathlib.Omega.{arith}
use Prim.Native.Nat.{ℕ}
use lib.ListN.{length-replicate}
use Rattle.touching.proofs.Same.{joined_same, right_same}
use Rattle.links_at.proofs.Laws.{ends_same, places_made, listed_made}
use Rattle.links_at.proofs.list_at_nodes.Goals as goal

pub list_links-requires-clause-joined : goal.list_links-requires-clause-joined
list_links-requires-clause-joined c =
    joined_same _ _ _ _ _ (ends_same _ _ _ _ c.requires.links_bound.0 c.put_ends.ensures.starts c.put_ends.ensures.ends) _ c.requires.joined

pub list_links-requires-clause-links_in_bounds : goal.list_links-requires-clause-links_in_bounds
list_links-requires-clause-links_in_bounds c = omega (arith, c.requires.links_bound, c.put_ends.auto, length-replicate {A = ℕ} 128 0)

pub returns-clause-places : goal.returns-clause-places
returns-clause-places c =
    places_made _ _ _ _ _ _ (ends_same _ _ _ _ c.requires.links_bound.0 c.put_ends.ensures.starts c.put_ends.ensures.ends) _ c.args.places.now c.list_links.ensures.places

pub returns-clause-listed : goal.returns-clause-listed
returns-clause-listed c =
    listed_made _ _ _ _ _ _ (ends_same _ _ _ _ c.requires.links_bound.0 c.put_ends.ensures.starts c.put_ends.ensures.ends) _ c.args.listed.now c.list_links.ensures.listed

pub returns-clause-right : goal.returns-clause-right
returns-clause-right c =
    right_same _ _ _ _ _ (ends_same _ _ _ _ c.requires.links_bound.0 c.put_ends.ensures.starts c.put_ends.ensures.ends) _ _ _ c.list_links.ensures.right

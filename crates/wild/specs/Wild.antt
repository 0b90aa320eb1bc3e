-- Refusal 7: the first head that is NaN, infinite or at least 2^64 in magnitude, else 64 and the first such flow, else, where a PD stands, 256 and the first such drawn flow. Definitions only.
use Rattle.std.specs.Prelude.{ℕ, zero, suc, ◌+◌, cond, List, get_or, Float, None, Option, Some}
use Rattle.std.specs.Float.{nan}
use Rattle.float.specs.Order.{wild_of}
use Rattle.layout.specs.declared.places.Layout.{Layout}
use Rattle.found.specs.Searches.{or_else}

-- the first wild one of k entries from entry i on
unfoldable pub wild_from : List Float → ℕ → ℕ → Option ℕ
wild_from x zero i = None
wild_from x (suc k) i = cond (wild_of (get_or x i nan)) (Some i) (wild_from x k (suc i))

-- of the first k entries
unfoldable pub first_wild : List Float → ℕ → Option ℕ
unfolding wild_from
first_wild x k = wild_from x k 0

-- a place so much further on: a link's is past the heads', a drawn flow's is past the links'
abbrev pub past : ℕ → Option ℕ → Option ℕ
past n (Some i) = Some (n + i)
past n None = None

-- of the drawn flows, where a PD stands
unfoldable pub wild_drawn : Layout → List Float → Option ℕ
unfolding first_wild
wild_drawn l drawn = cond l.pressures (past 256 (first_wild drawn l.nodes)) None

-- of heads, flows and drawn flows
unfoldable pub wild_place : Layout → List Float → List Float → List Float → Option ℕ
unfolding first_wild wild_drawn
wild_place l heads flows drawn = or_else (first_wild heads l.nodes) (or_else (past 64 (first_wild flows l.links)) (wild_drawn l drawn))

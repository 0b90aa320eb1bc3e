-- The lengths that the links at tanks keep. Assumes nothing.
use mathlib.Core.Path.{◌≡◌, refl, ◌∙◌}
use mathlib.Core.Bool.{Bool, true, false, cond, ◌&&◌, ◌||◌}
use mathlib.Core.List.{List}
use Prim.Native.Nat.{ℕ, zero, suc}
use lib.Dec.{eqb}
use lib.ListN.{length, get_or, set, length-set}
use lib.Ieee.{Float, nan, lt}
use Rattle.layout.specs.declared.places.Layout.{Layout}
use Rattle.nodes.specs.Nodes.{tank_at}
use Rattle.links.specs.Links.{link_start, link_end}
use Rattle.constants.specs.Constants as constant
use Rattle.columns.proofs.Laws.{add_long, take_long}
use Rattle.tanks.specs.Tanks.{Tanks, tanks, shut, links_to, links_from, tank_update, tank_updates, tank_links_of}

-- two states of the columns have them of the same lengths
record SameLengths (t t₀ : Tanks) : Type 0 where
  demands : length t.demands ≡ length t₀.demands
  codes : length t.codes ≡ length t₀.codes

either : (b : Bool) {t u t₀ : Tanks} → SameLengths t t₀ → SameLengths u t₀ → SameLengths (cond b t u) t₀
either true p r = p
either false p r = r

shut_long : (above below : Bool) (q : Float) (j : ℕ) (codes : List ℕ) → length (shut above below q j codes) ≡ length codes
unfolding shut
shut_long above below q j codes = go ((above && lt constant.zero q) || (below && lt q constant.zero))
  where
    go : (b : Bool) → length (cond b (set codes j 3) codes) ≡ length codes
    go true = length-set codes j 3
    go false = refl

module _ (s : List ℕ) (l : Layout) (i : ℕ) (q : List Float) (full empty : Bool) (t : Tanks) where
  to_long : (j : ℕ) → SameLengths (links_to s l i q full empty j t) t
  unfolding links_to
  to_long zero = record { demands = refl; codes = refl }
  to_long (suc j) =
      let u : Tanks = links_to s l i q full empty j t in
      let d : SameLengths u t = to_long j in
      either (eqb (link_end s l j) i)
      (record { demands = add_long u.demands i (get_or q j nan) ∙ d.demands; codes = shut_long full empty (get_or q j nan) j u.codes ∙ d.codes })
      d

  from_long : (j : ℕ) → SameLengths (links_from s l i q full empty j t) t
  unfolding links_from
  from_long zero = record { demands = refl; codes = refl }
  from_long (suc j) =
      let u : Tanks = links_from s l i q full empty j t in
      let d : SameLengths u t = from_long j in
      either (eqb (link_start s l j) i)
      (record { demands = take_long u.demands i (get_or q j nan) ∙ d.demands; codes = shut_long empty full (get_or q j nan) j u.codes ∙ d.codes })
      d

module _ (s : List ℕ) (l : Layout) (i : ℕ) (q : List Float) (full empty : Bool) (j : ℕ) (t : Tanks) where
  to_demands : length (links_to s l i q full empty j t).demands ≡ length t.demands
  to_demands = (to_long s l i q full empty t j).demands

  to_codes : length (links_to s l i q full empty j t).codes ≡ length t.codes
  to_codes = (to_long s l i q full empty t j).codes

  from_demands : length (links_from s l i q full empty j t).demands ≡ length t.demands
  from_demands = (from_long s l i q full empty t j).demands

  from_codes : length (links_from s l i q full empty j t).codes ≡ length t.codes
  from_codes = (from_long s l i q full empty t j).codes

tank_long : (s : List ℕ) (l : Layout) (head : Float) (q : List Float) (i : ℕ) (t t₀ : Tanks) → SameLengths t t₀ → SameLengths (tank_update s l head q i t) t₀
unfolding tank_update
tank_long s l head q i t t₀ d = record { demands = simp (from_demands, to_demands, length-set) d.demands; codes = simp (from_codes, to_codes) d.codes }

tanks_long : (s : List ℕ) (l : Layout) (h q : List Float) (i : ℕ) (t : Tanks) → SameLengths (tank_updates s l h q i t) t
unfolding tank_updates
tanks_long s l h q zero t = record { demands = refl; codes = refl }
tanks_long s l h q (suc i) t =
    let u : Tanks = tank_updates s l h q i t in
    let d : SameLengths u t = tanks_long s l h q i t in
    either (tank_at s l i) (tank_long s l (get_or h i nan) q i u t d) d

pub tank_demands_long : (s : List ℕ) (l : Layout) (h q d : List Float) (t : List ℕ) → length (tank_links_of s l h q d t).demands ≡ length d
unfolding tank_links_of
tank_demands_long s l h q d t = (tanks_long s l h q l.nodes (tanks d t)).demands

pub tank_codes_long : (s : List ℕ) (l : Layout) (h q d : List Float) (t : List ℕ) → length (tank_links_of s l h q d t).codes ≡ length t
unfolding tank_links_of
tank_codes_long s l h q d t = (tanks_long s l h q l.nodes (tanks d t)).codes

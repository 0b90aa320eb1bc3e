-- The lengths that the update of the links keeps. Assumes nothing.
use mathlib.Core.Path.{◌≡◌, refl, ◌∙◌}
use mathlib.Core.Bool.{Bool, true, false, cond, ◌&&◌}
use mathlib.Core.List.{List}
use Prim.Native.Nat.{ℕ, zero, suc}
use lib.ListN.{length, get_or, length-set}
use lib.Ieee.{Float, nan}
use Rattle.layout.specs.declared.places.Layout.{Layout}
use Rattle.links.specs.Links.{link_of}
use Rattle.codes.specs.Codes.{status_code}
use Rattle.records.specs.declared.records.Link.{Link}
use Rattle.constants.specs.Arithmetic.{minus}
use Rattle.nodes.specs.Nodes.{enabled}
use Rattle.update.specs.Update.{still, recoded, Stepping, stepping, Basis, flow_change, change_at, link_set, link_moved, link_update, link_updates, update_of}
use Rattle.std.specs.Prelude.{None, Some}
use Rattle.status.specs.Rules.{Change}

-- two states of the columns have them of the same lengths
record SameLengths (w w₀ : Stepping) : Type 0 where
  flows : length w.flows ≡ length w₀.flows
  codes : length w.codes ≡ length w₀.codes

either : (b : Bool) {t u t₀ : Stepping} → SameLengths t t₀ → SameLengths u t₀ → SameLengths (cond b t u) t₀
either true p r = p
either false p r = r

recoded_long : (codes : List ℕ) (i : ℕ) (change : Change) → length (recoded codes i change) ≡ length codes
unfolding recoded
recoded_long codes i None = refl
recoded_long codes i (Some (new, cause)) = length-set codes i (status_code new)

moved_long : (s : List ℕ) (l : Layout) (b : Basis) (k : Link) (j : ℕ) (w w₀ : Stepping) → SameLengths w w₀ → SameLengths (link_moved s l b k j w) w₀
unfolding link_moved link_set
moved_long s l b k j w w₀ d =
    let q : Float = minus (get_or w.flows j nan) (flow_change b k j) in
    record {
      flows = length-set w.flows j q ∙ d.flows;
      codes = recoded_long w.codes j (change_at s l b.heads k (get_or w.codes j 0) q) ∙ d.codes;
    }

update_long : (s : List ℕ) (l : Layout) (b : Basis) (k : Link) (j : ℕ) (w w₀ : Stepping) → SameLengths w w₀ → SameLengths (link_update s l b k j w) w₀
unfolding link_update
update_long s l b k j w w₀ d = either (enabled s l k.start && enabled s l k.end) (moved_long s l b k j w w₀ d) (record { flows = length-set w.flows j _ ∙ d.flows; codes = d.codes })

updates_long : (s : List ℕ) (l : Layout) (b : Basis) (j : ℕ) (w : Stepping) → SameLengths (link_updates s l b j w) w
unfolding link_updates
updates_long s l b zero w = record { flows = refl; codes = refl }
updates_long s l b (suc j) w = update_long s l b (link_of s l j) j (link_updates s l b j w) w (updates_long s l b j w)

pub update_flows_long : (s : List ℕ) (l : Layout) (b : Basis) (q : List Float) (c : List ℕ) → length (update_of s l b q c).flows ≡ length q
unfolding update_of
update_flows_long s l b q c = (updates_long s l b l.links (stepping q c still)).flows

pub update_codes_long : (s : List ℕ) (l : Layout) (b : Basis) (q : List Float) (c : List ℕ) → length (update_of s l b q c).codes ≡ length c
unfolding update_of
update_codes_long s l b q c = (updates_long s l b l.links (stepping q c still)).codes

-- Bounds of floats that are finite and not negative. Every operation keeps the order there, so bounds of the operands are bounds of the result.
-- `times-bounded`, `plus-bounded`, `over-bounded` and `minus-bounded` move them; the last two arguments are tests on closed floats. Assumes nothing.
use mathlib.Core.Path.{◌≡◌, sym, subst}
use Prim.Native.Nat.{ℕ, ◌+◌, ◌-◌, ◌*◌, zero-le}
use native.Mathlib.Nat.{le_refl, le_trans, le_of_eq, zero-mul, mul-pos}
use mathlib.Core.Bool.{true, false}
use lib.IntN.{pos}
use lib.Dec.{T}
use lib.Ieee.{Float, nan, inf, fin, Format, round, mul, add, sub, div, le}
use lib.Ieee.Order.{round_mono}
use lib.Ieee.Positive.{num, den, den_pos, positive, above, above_of_le}
use Rattle.barrier.proofs.Fractions.{products, sums, differences, quotients}
use Rattle.barrier.proofs.Nonnegative.{nonnegative, cross, uncross, le_through, held_under, num_pos, positive_nonnegative, mul_is, add_is, div_is, sub_is}

-- ---- the operations keep the order
carried : {a b a' b' : Float} → a ≡ a' → b ≡ b' → T (le a' b') → T (le a b)
carried {a} {b} {a'} {b'} p q t = subst (λ (z : Float). T (le z b)) (sym p) (subst (λ (z : Float). T (le a' z)) (sym q) t)

pub mul_mono : (f : Format) (x x' y y' : Float) → T (nonnegative x) → T (nonnegative x') → T (nonnegative y) → T (nonnegative y') → T (le x x') → T (le y y') → T (le (mul f x y) (mul f x' y'))
mul_mono f x x' y y' p p' q q' h k =
    carried (mul_is f x y p q) (mul_is f x' y' p' q')
    (round_mono f (num x * num y) (den x * den y) (num x' * num y') (den x' * den y') (mul-pos (den_pos x) (den_pos y)) (mul-pos (den_pos x') (den_pos y'))
    (products (num x) (den x) (num x') (den x') (num y) (den y) (num y') (den y') (cross x x' p p' h) (cross y y' q q' k)))

pub add_mono : (f : Format) (x x' y y' : Float) → T (nonnegative x) → T (nonnegative x') → T (nonnegative y) → T (nonnegative y') → T (le x x') → T (le y y') → T (le (add f x y) (add f x' y'))
add_mono f x x' y y' p p' q q' h k =
    carried (add_is f x y p q) (add_is f x' y' p' q')
    (round_mono f (num x * den y + num y * den x) (den x * den y) (num x' * den y' + num y' * den x') (den x' * den y') (mul-pos (den_pos x) (den_pos y)) (mul-pos (den_pos x') (den_pos y'))
    (sums (num x) (den x) (num x') (den x') (num y) (den y) (num y') (den y') (cross x x' p p' h) (cross y y' q q' k)))

-- a quotient falls as its divisor grows
pub div_mono : (f : Format) (x x' y y' : Float) → T (nonnegative x) → T (nonnegative x') → T (positive y) → T (positive y') → T (le x x') → T (le y' y) → T (le (div f x y) (div f x' y'))
div_mono f x x' y y' p p' q q' h k =
    carried (div_is f x y p q) (div_is f x' y' p' q')
    (round_mono f (num x * den y) (num y * den x) (num x' * den y') (num y' * den x') (mul-pos (num_pos y q) (den_pos x)) (mul-pos (num_pos y' q') (den_pos x'))
    (quotients (num x) (den x) (num x') (den x') (num y) (den y) (num y') (den y') (cross x x' p p' h) (cross y' y (positive_nonnegative y' q') (positive_nonnegative y q) k)))

-- and a difference as what is taken grows, up to what it is taken from
pub sub_mono : (f : Format) (x x' y y' : Float) → T (nonnegative x) → T (nonnegative x') → T (nonnegative y) → T (nonnegative y') → T (le x x') → T (le y' y) → T (le y x) → T (le (sub f x y) (sub f x' y'))
sub_mono f x x' y y' p p' q q' h k l =
    carried (sub_is f x y p q l) (sub_is f x' y' p' q' (le_through y' y x' q' q p' k (le_through y x x' q p p' l h)))
    (round_mono f (num x * den y - num y * den x) (den x * den y) (num x' * den y' - num y' * den x') (den x' * den y') (mul-pos (den_pos x) (den_pos y)) (mul-pos (den_pos x') (den_pos y'))
    (differences (num x) (den x) (num x') (den x') (num y) (den y) (num y') (den y') (cross x x' p p' h) (cross y' y q' q k)))

-- ---- x from lo to hi, all three finite and not negative
pub record Bounded (lo x hi : Float) : Type 0 where
  pub low : T (nonnegative lo)
  pub held : T (nonnegative x)
  pub high : T (nonnegative hi)
  pub least : T (le lo x)
  pub most : T (le x hi)

pub exactly : (x : Float) → T (nonnegative x) → Bounded x x x
exactly x p =
    let same : T (le x x) = uncross x x p p (le_refl (num x * den x)) in
    record { low = p; held = p; high = p; least = same; most = same }

-- +0.0 is the least
abbrev pub origin : Float
origin = fin false 0 (pos 0)

pub from_origin : (x : Float) → T (nonnegative x) → T (le origin x)
from_origin x p = uncross origin x tt p (le_trans (le_of_eq (zero-mul (den x))) zero-le)

pub wider : {lo x hi : Float} → Bounded lo x hi → (least most : Float) → T (nonnegative least) → T (nonnegative most) → T (le least lo) → T (le hi most) → Bounded least x most
wider {lo} {x} {hi} b least most p q h k =
    record {
      low = p;
      held = b.held;
      high = q;
      least = le_through least lo x p b.low b.held h b.least;
      most = le_through x hi most b.held b.high q b.most k;
    }

-- lo ≤ hi
ordered : {lo x hi : Float} → Bounded lo x hi → T (le lo hi)
ordered {lo} {x} {hi} b = le_through lo x hi b.low b.held b.high b.least b.most

positive_from : (lo x : Float) → T (positive lo) → T (nonnegative x) → T (le lo x) → T (positive x)
positive_from lo x p q h = go x q (above_of_le lo x p h)
  where
    go : (z : Float) → T (nonnegative z) → T (above z) → T (positive z)
    go nan q a = absurd q
    go (inf s) q a = absurd q
    go (fin true m e) q a = absurd q
    go (fin false m e) q a = a

pub positive_bounded : {lo x hi : Float} → T (positive lo) → Bounded lo x hi → T (positive x)
positive_bounded {lo} {x} p b = positive_from lo x p b.held b.least

-- three rounded fractions u ≤ v ≤ w: what bounds u from below and w from above bounds v
settled : (f : Format) (a c b d g j : ℕ) (u v w least most : Float) → u ≡ round f false a c → v ≡ round f false b d → w ≡ round f false g j
    → T (nonnegative least) → T (nonnegative most) → T (le least u) → T (le u v) → T (le v w) → T (le w most) → Bounded least v most
settled f a c b d g j u v w least most ua vb wg p q lu uv vw wm =
    let ws = under g j w most wg q wm in
    let vs = under b d v w vb ws vw in
    let us = under a c u v ua vs uv in
    record { low = p; held = vs; high = q; least = le_through least u v p us vs lu uv; most = le_through v w most vs ws q vw wm }
  where
    under : (a c : ℕ) (x h : Float) → x ≡ round f false a c → T (nonnegative h) → T (le x h) → T (nonnegative x)
    under a c x h e n l = subst (λ (z : Float). T (nonnegative z)) (sym e) (held_under f a c h n (subst (λ (z : Float). T (le z h)) e l))

module _ (f : Format) {lo x hi lo' y hi' : Float} (b : Bounded lo x hi) (c : Bounded lo' y hi') (least most : Float) (p : T (nonnegative least)) (q : T (nonnegative most)) where
  pub times_bounded : T (le least (mul f lo lo')) → T (le (mul f hi hi') most) → Bounded least (mul f x y) most
  times_bounded h k =
      settled f (num lo * num lo') (den lo * den lo') (num x * num y) (den x * den y) (num hi * num hi') (den hi * den hi') (mul f lo lo') (mul f x y) (mul f hi hi') least most
      (mul_is f lo lo' b.low c.low) (mul_is f x y b.held c.held) (mul_is f hi hi' b.high c.high) p q h
      (mul_mono f lo x lo' y b.low b.held c.low c.held b.least c.least)
      (mul_mono f x hi y hi' b.held b.high c.held c.high b.most c.most)
      k

  pub plus_bounded : T (le least (add f lo lo')) → T (le (add f hi hi') most) → Bounded least (add f x y) most
  plus_bounded h k =
      settled f (num lo * den lo' + num lo' * den lo) (den lo * den lo') (num x * den y + num y * den x) (den x * den y) (num hi * den hi' + num hi' * den hi) (den hi * den hi') (add f lo lo') (add f x y) (add f hi hi') least most
      (add_is f lo lo' b.low c.low) (add_is f x y b.held c.held) (add_is f hi hi' b.high c.high) p q h
      (add_mono f lo x lo' y b.low b.held c.low c.held b.least c.least)
      (add_mono f x hi y hi' b.held b.high c.held c.high b.most c.most)
      k

  pub over_bounded : T (positive lo') → T (le least (div f lo hi')) → T (le (div f hi lo') most) → Bounded least (div f x y) most
  over_bounded o h k =
      let s = positive_from lo' y o c.held c.least in
      let t = positive_from lo' hi' o c.high (ordered c) in
      settled f (num lo * den hi') (num hi' * den lo) (num x * den y) (num y * den x) (num hi * den lo') (num lo' * den hi) (div f lo hi') (div f x y) (div f hi lo') least most
      (div_is f lo hi' b.low t) (div_is f x y b.held s) (div_is f hi lo' b.high o) p q h
      (div_mono f lo x hi' y b.low b.held t s b.least c.most)
      (div_mono f x hi y lo' b.held b.high s o b.most c.least)
      k

  pub minus_bounded : T (le hi' lo) → T (le least (sub f lo hi')) → T (le (sub f hi lo') most) → Bounded least (sub f x y) most
  minus_bounded o h k =
      let yx : T (le y x) = le_through y hi' x c.held c.high b.held c.most (le_through hi' lo x c.high b.low b.held o b.least) in
      let lh : T (le lo' hi) = le_through lo' y hi c.low c.held b.high c.least (le_through y x hi c.held b.held b.high yx b.most) in
      settled f (num lo * den hi' - num hi' * den lo) (den lo * den hi') (num x * den y - num y * den x) (den x * den y) (num hi * den lo' - num lo' * den hi) (den hi * den lo') (sub f lo hi') (sub f x y) (sub f hi lo') least most
      (sub_is f lo hi' b.low c.high o) (sub_is f x y b.held c.held yx) (sub_is f hi lo' b.high c.low lh) p q h
      (sub_mono f lo x hi' y b.low b.held c.high c.held b.least c.most o)
      (sub_mono f x hi y lo' b.held b.high c.held c.low b.most c.least yx)
      k

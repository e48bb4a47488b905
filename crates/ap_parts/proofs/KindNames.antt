-- The names of the modules of kinds differ, where each kind is the first of its name.
use Rattle.std.proofs.Common.{◌≡◌, ◌≢◌, ℕ, ◌<◌, ◌≤◌, ◌^◌, true, List, [], ◌∷◌, ◌++◌, drop, map, Option, Some, None, refl, sym, ap, subst, ◌∙◌, arith}
use Rattle.std.specs.Prelude.{◌==◌, nat_le, position, slice_get, IsTrue}
use Rattle.std.specs.Char.{is_digit}
use Rattle.std.specs.Fmt.{decimal}
use Rattle.std.specs.List.{AllByRecursion as Each, list_all}
use Rattle.std.specs.Option.{option_map_or}
use Rattle.std.proofs.lemmas.Bool.{and_parts, eq-eqb, eqb-true, leb-true}
use Rattle.std.proofs.lemmas.Fmt.{decimal_injective}
use Rattle.ap_bits.specs.Cards.{FitsWidth, allows}
use Rattle.ap_bits.specs.declared.card.Card.{Card}
use Rattle.ap_bits.specs.declared.card.Widths.{Widths}
use Rattle.ap_bits.specs.declared.card.Widths.TheVariants.{Any, PowersOfTwo}
use Rattle.ap_desc.proofs.Decimals.{decimal_are_digits}
use Rattle.ap_desc.specs.declared.design.Unit.{Unit as Resource}
use Rattle.ap_net.specs.Names.{AreDistinct}
use Rattle.ap_net.proofs.Lists.{All-at, All-back, All-both, All-join, All-map, Each-at, some_same}
use Rattle.ap_unit.specs.Kinds.{place_of}
use Rattle.ap_parts.specs.Known.{IsFirstKind}
use Rattle.ap_parts.specs.Parts.{FitsShelf, is_alike, kind_module_name, kind_name, kind_of, kinds_of, with_kind, with_kind_at}
use Rattle.ap_parts.specs.declared.modules.KindWidth.{KindWidth}
use Rattle.ap_parts.proofs.FittingKinds.{IsFirstFit}
use Rattle.ap_parts.proofs.Lists.{any_there, none_at, some_and}

-- A name is told apart from the width behind it: the last _ stands between them.

no_under : (b : ℕ) → is_digit b 10 ≡ true → b ≢ 95
no_under b h e = let wrong : is_digit 95 10 ≡ true = subst (λ n. is_digit n 10 ≡ true) e h in cc

no_unders : (bytes : List ℕ) → list_all (λ b. is_digit b 10) bytes ≡ true → Each (λ b. b ≢ 95) bytes
no_unders [] h = tt
no_unders (b ∷ bytes) h = let both = and_parts (is_digit b 10) (list_all (λ b. is_digit b 10) bytes) h in (no_under b both.0, no_unders bytes both.1)

last_under : (a b x y : List ℕ) → Each (λ c. c ≢ 95) x → Each (λ c. c ≢ 95) y → a ++ 95 ∷ x ≡ b ++ 95 ∷ y → (a ≡ b) × (x ≡ y)
last_under [] [] x y hx hy e = (refl, let tail : x ≡ y = ap (drop 1) e in tail)
last_under [] (c ∷ b) x y hx hy e =
    let tail : x ≡ b ++ 95 ∷ y = ap (drop 1) e in
    absurd ((All-back (λ d. d ≢ 95) b (95 ∷ y) (subst (Each (λ d. d ≢ 95)) tail hx)).0 refl)
last_under (c ∷ a) [] x y hx hy e =
    let tail : a ++ 95 ∷ x ≡ y = ap (drop 1) e in
    absurd ((All-back (λ d. d ≢ 95) a (95 ∷ x) (subst (Each (λ d. d ≢ 95)) (sym tail) hy)).0 refl)
last_under (c ∷ a) (d ∷ b) x y hx hy e =
    let head : c ≡ d = cc in
    let rest = last_under a b x y hx hy (ap (drop 1) e) in
    ((λ i. head i ∷ rest.0 i), rest.1)

one_name : (k l : List ℕ) (v w : ℕ) → v < 2 ^ 64 → w < 2 ^ 64 → kind_module_name k v ≡ kind_module_name l w → (k ≡ l) × (v ≡ w)
one_name k l v w low small e =
    let plain : Each (λ b. b ≢ 95) (decimal v) = no_unders (decimal v) (decimal_are_digits v low) in
    let also : Each (λ b. b ≢ 95) (decimal w) = no_unders (decimal w) (decimal_are_digits w small) in
    let both = last_under k l (decimal v) (decimal w) plain also (ap (drop 2) e) in
    (both.0, decimal_injective v w low small both.1)

-- Widths that cards allow are from 1 to 64.

powers_fit : (w : ℕ) → IsTrue (allows PowersOfTwo w) → (1 ≤ w) × (w ≤ 64)
powers_fit w h =
    let powers : List ℕ = 1 ∷ 2 ∷ 4 ∷ 8 ∷ 16 ∷ 32 ∷ 64 ∷ [] in
    let (k, power, at, is) = any_there (λ power. w == power) powers h in
    let low : Each (λ n. 1 ≤ n) powers =
    (omega arith, (omega arith, (omega arith, (omega arith, (omega arith, (omega arith, (omega arith, tt))))))) in
    let high : Each (λ n. n ≤ 64) powers =
    (omega arith, (omega arith, (omega arith, (omega arith, (omega arith, (omega arith, (omega arith, tt))))))) in
    let fits : (1 ≤ power) × (power ≤ 64) = (All-at (λ n. 1 ≤ n) powers k power low at, All-at (λ n. n ≤ 64) powers k power high at) in
    subst (λ n. (1 ≤ n) × (n ≤ 64)) (sym (eqb-true w power is)) fits

allowed_fits : (widths : Widths) (w : ℕ) → IsTrue (allows widths w) → (1 ≤ w) × (w ≤ 64)
allowed_fits Any w h = let both = and_parts (nat_le 1 w) (nat_le w 64) h in (leb-true 1 w both.0, leb-true w 64 both.1)
allowed_fits PowersOfTwo w h = powers_fit w h

pub width_fits : (card : Card) (w : ℕ) → FitsWidth card w → (1 ≤ w) × (w ≤ 64)
width_fits card w h = allowed_fits card.widths w h

-- No kind and width stands twice.

abbrev pub Differ : List KindWidth → Type 0
Differ [] = Unit {0}
Differ (p ∷ kinds) = Each (λ q. q ≢ p) kinds × Differ kinds

differ_push : (kinds : List KindWidth) (p : KindWidth) → Each (λ q. q ≢ p) kinds → Differ kinds → Differ (kinds ++ p ∷ [])
differ_push [] p apart h = (tt, tt)
differ_push (q ∷ kinds) p apart h = (All-join (λ r. r ≢ q) kinds (p ∷ []) h.0 ((λ e. apart.0 (sym e)), tt), differ_push kinds p apart.1 h.1)

alike : (p q : KindWidth) → q ≡ p → is_alike p q ≡ true
alike p q e = subst (λ r. is_alike p r ≡ true) (sym e) (rw (eq-eqb p.kind p.kind refl, eq-eqb p.width p.width refl) refl)

none_alike : (kinds : List KindWidth) (p : KindWidth) → position (is_alike p) kinds ≡ None → Each (λ q. q ≢ p) kinds
none_alike kinds p e = Each-at (λ q. q ≢ p) kinds (λ i q at same. none_at (is_alike p) kinds e i q at (alike p q same))

one_more : (kinds : List KindWidth) (p : KindWidth) (o : Option ℕ) → position (is_alike p) kinds ≡ o → Differ kinds → Differ (with_kind_at o kinds p)
one_more kinds p None e h = differ_push kinds p (none_alike kinds p e) h
one_more kinds p (Some place) e h = h

pub kinds_differ : (kinds : List KindWidth) (units : List Resource) → Differ kinds → Differ (kinds_of kinds units)
kinds_differ kinds [] h = h
kinds_differ kinds (u ∷ units) h =
    kinds_differ (with_kind kinds (kind_of u)) units (one_more kinds (kind_of u) (position (is_alike (kind_of u)) kinds) refl h)

-- So their modules' names differ.

abbrev pub named : List Card → KindWidth → List ℕ
named cards p = kind_module_name (kind_name cards p.kind) p.width

one_kind : (cards : List Card) (p q : KindWidth) → IsFirstKind cards p.kind → IsFirstKind cards q.kind → FitsShelf cards p → FitsShelf cards q
    → named cards p ≡ named cards q → p ≡ q
one_kind cards p q first next fits also e =
    let (c, c_at, c_fits) = some_and (λ (x : Card). FitsWidth x p.width) (slice_get cards p.kind) fits in
    let (d, d_at, d_fits) = some_and (λ (x : Card). FitsWidth x q.width) (slice_get cards q.kind) also in
    let low = (width_fits c p.width c_fits).1 in
    let small = (width_fits d q.width d_fits).1 in
    let both = one_name (kind_name cards p.kind) (kind_name cards q.kind) p.width q.width (omega arith) (omega arith) e in
    let name_c : kind_name cards p.kind ≡ c.name = ap (λ o. option_map_or (λ (x : Card). x.name) o []) c_at in
    let name_d : kind_name cards q.kind ≡ d.name = ap (λ o. option_map_or (λ (x : Card). x.name) o []) d_at in
    let same : c.name ≡ d.name = sym name_c ∙ both.0 ∙ name_d in
    let kind : p.kind ≡ q.kind = some_same (sym (first c c_at) ∙ ap (λ name. place_of name cards) same ∙ next d d_at) in
    (λ i. record { kind = kind i; width = both.1 i })

pub kind_names_differ : (cards : List Card) (kinds : List KindWidth) → Each (IsFirstFit cards) kinds → Differ kinds → AreDistinct (map (named cards) kinds)
kind_names_differ cards [] fits h = tt
kind_names_differ cards (p ∷ kinds) fits h = (
  All-map (λ name. name ≢ named cards p) (named cards) kinds
      (All-both (IsFirstFit cards) (λ q. q ≢ p) (λ q. named cards q ≢ named cards p)
      (λ q fit other e. other (one_kind cards q p fit.0 (fits.0).0 fit.1 (fits.0).1 e)) kinds fits.1 h.0),
  kind_names_differ cards kinds fits.1 h.1,
)

-- Where the nets and registers of an instance stand in the whole, and where its name stands among the parts.
use Rattle.std.proofs.Common.{◌≡◌, ◌≢◌, ℕ, suc, zero, ◌+◌, ◌<◌, List, [], ◌∷◌, ◌++◌, length, map, Option, Some, None, Bool, true, false, refl, sym, ap, subst, ◌∙◌, arith}
use Rattle.std.specs.Prelude.{slice_get, slice_index_or, option_map, position, Contains, not, cond, nat_lt}
use Rattle.std.specs.List.{position_or_len, AllByRecursion as Each}
use Rattle.std.specs.Str.{bytes_eq}
use Rattle.std.proofs.lemmas.Bool.{lt-ltb}
use Rattle.std.proofs.lemmas.List.{length-map}
use Rattle.std.proofs.lemmas.Option.{slice_get-map, slice_get-get_or, slice_get_within}
use Rattle.std.proofs.lemmas.Slice.Eq.{bytes_eq-Decides}
use Rattle.ap_net.specs.declared.net.FlatNet.{FlatNet}
use Rattle.ap_net.specs.declared.net.Instance.{Instance}
use Rattle.ap_net.specs.declared.net.ModuleNet.{ModuleNet}
use Rattle.ap_net.specs.declared.net.Next.{Next}
use Rattle.ap_net.specs.Flat.{base_from, base_of, nets_in, nexts_in, opened_over, part_net, part_nets, part_nexts, part_size, top_net}
use Rattle.ap_net.specs.Modules.{ModuleText, module_named, nets_of, next_placed}
use Rattle.ap_net.specs.Names.{AreDistinct}
use Rattle.ap_net.proofs.Lists.{All-at, All-front, get_left, get_right, some_same}

-- an element is somewhere
pub place_of : {X : Type 0} (xs : List X) (x : X) → Contains xs x → (k : ℕ) × (slice_get xs k ≡ Some x)
place_of xs x (k, low, at) = (k, slice_get-get_or xs k x low ∙ ap Some at)

-- the k-th of some instances, whose module is m
module _ (modules : List ModuleText) (m : ModuleText) where
  net_among : (first base : ℕ) (instances : List Instance) (k : ℕ) (i : Instance) → slice_get instances k ≡ Some i → module_named modules i.module ≡ Some m → (n : ℕ) (net : ModuleNet) → slice_get (nets_of m) n ≡ Some net
      → (p : ℕ) × (base_from modules base instances k + n ≡ base + p) × (slice_get (part_nets modules first instances) p ≡ Some (part_net (first + k) net))
  net_among first base [] k i at found n net there = cc
  net_among first base (j ∷ instances) zero i at found n net there =
      let own : nets_in (module_named modules j.module) ≡ nets_of m = ap (λ (x : Instance). nets_in (module_named modules x.module)) (some_same at) ∙ ap nets_in found in
      let here : slice_get (nets_in (module_named modules j.module)) n ≡ Some net = ap (λ (l : List ModuleNet). slice_get l n) own ∙ there in
      let number : first ≡ first + 0 = omega arith in (
        n,
        refl,
        get_left (map (part_net first) (nets_in (module_named modules j.module))) (part_nets modules (first + 1) instances) n (part_net first net)
            (slice_get-map (part_net first) (nets_in (module_named modules j.module)) n ∙ ap (option_map (part_net first)) here) ∙ ap (λ part. Some (part_net part net)) number,
      )
  net_among first base (j ∷ instances) (suc k) i at found n net there =
      let own : List ModuleNet = nets_in (module_named modules j.module) in
      let long : length (map (part_net first) own) ≡ part_size modules j = simp length-map in
      let later = net_among (first + 1) (base + part_size modules j) instances k i at found n net there in
      let p : ℕ = later.0 in
      let place : base_from modules (base + part_size modules j) instances k + n ≡ (base + part_size modules j) + p = later.1 in
      let number : first + 1 + k ≡ first + suc k = omega arith in (
        part_size modules j + p,
        omega (arith, place),
        ap (λ l. slice_get (part_nets modules first (j ∷ instances)) (l + p)) (sym long) ∙ get_right (map (part_net first) own) (part_nets modules (first + 1) instances) p
            ∙ later.2 ∙ ap (λ part. Some (part_net part net)) number,
      )

  next_among : (base : ℕ) (instances : List Instance) (k : ℕ) (i : Instance) → slice_get instances k ≡ Some i → module_named modules i.module ≡ Some m → (n : ℕ) (x : Next) → slice_get m.nexts n ≡ Some x
      → (p : ℕ) × (slice_get (part_nexts modules base instances) p ≡ Some (next_placed (λ number. base_from modules base instances k + number) x))
  next_among base [] k i at found n x there = cc
  next_among base (j ∷ instances) zero i at found n x there =
      let own : nexts_in (module_named modules j.module) ≡ m.nexts = ap (λ (y : Instance). nexts_in (module_named modules y.module)) (some_same at) ∙ ap nexts_in found in
      let here : slice_get (nexts_in (module_named modules j.module)) n ≡ Some x = ap (λ (l : List Next). slice_get l n) own ∙ there in (
        n,
        get_left (map (next_placed (λ number. base + number)) (nexts_in (module_named modules j.module))) (part_nexts modules (base + part_size modules j) instances) n (next_placed (λ number. base + number) x)
            (slice_get-map (next_placed (λ number. base + number)) (nexts_in (module_named modules j.module)) n ∙ ap (option_map (next_placed (λ number. base + number))) here),
      )
  next_among base (j ∷ instances) (suc k) i at found n x there =
      let own : List Next = map (next_placed (λ number. base + number)) (nexts_in (module_named modules j.module)) in
      let later = next_among (base + part_size modules j) instances k i at found n x there in
      (length own + later.0, get_right own (part_nexts modules (base + part_size modules j) instances) later.0 ∙ later.1)

  -- a net and a register's driver of instance k in the whole
  module _ (top : ModuleText) (k : ℕ) (i : Instance) (at : slice_get top.instances k ≡ Some i) (found : module_named modules i.module ≡ Some m) where
    pub part_net_stands : (n : ℕ) (net : ModuleNet) → slice_get (nets_of m) n ≡ Some net → slice_get (opened_over modules top).nets (base_of modules top k + n) ≡ Some (part_net (k + 1) net)
    part_net_stands n net there =
        let own : List FlatNet = map top_net (nets_of top) in
        let long : length own ≡ length (nets_of top) = simp length-map in
        let later = net_among 1 (length (nets_of top)) top.instances k i at found n net there in
        let place : base_of modules top k + n ≡ length own + later.0 = later.1 ∙ ap (λ l. l + later.0) (sym long) in
        let number : 1 + k ≡ k + 1 = omega arith in
        ap (slice_get (opened_over modules top).nets) place ∙ get_right own (part_nets modules 1 top.instances) later.0 ∙ later.2 ∙ ap (λ part. Some (part_net part net)) number

    pub part_next_stands : (n : ℕ) (x : Next) → slice_get m.nexts n ≡ Some x → (p : ℕ) × (slice_get (opened_over modules top).nexts p ≡ Some (next_placed (λ number. base_of modules top k + number) x))
    part_next_stands n x there =
        let later = next_among (length (nets_of top)) top.instances k i at found n x there in
        (length top.nexts + later.0, get_right top.nexts (part_nexts modules (length (nets_of top)) top.instances) later.0 ∙ later.1)

-- Names.

distinct_front : (xs ys : List (List ℕ)) → AreDistinct (xs ++ ys) → AreDistinct xs
distinct_front [] ys d = tt
distinct_front (x ∷ xs) ys d = (All-front (λ other. other ≢ x) xs ys d.0, distinct_front xs ys d.1)

-- a name is passed by, or found
passed_by : (b : Bool) (rest : ℕ) → b ≡ false → cond (not b) (1 + rest) 0 ≡ 1 + rest
passed_by true rest e = cc
passed_by false rest e = refl

met : (b : Bool) (rest : ℕ) → b ≡ true → cond (not b) (1 + rest) 0 ≡ 0
met true rest e = refl
met false rest e = cc

differs : (a b : List ℕ) → a ≢ b → bytes_eq a b ≡ false
differs a b ne = go (bytes_eq a b) refl
  where
    go : (t : Bool) → bytes_eq a b ≡ t → t ≡ false
    go true e = absurd (ne ((bytes_eq-Decides a b).0 e))
    go false e = refl

first_at : (names : List (List ℕ)) (k : ℕ) (name : List ℕ) → AreDistinct names → slice_get names k ≡ Some name → position_or_len (bytes_eq name) names ≡ k
first_at [] k name d at = cc
first_at (x ∷ names) zero name d at = met (bytes_eq name x) (position_or_len (bytes_eq name) names) ((bytes_eq-Decides name x).1 (sym (some_same at)))
first_at (x ∷ names) (suc k) name d at =
    let later : position_or_len (bytes_eq name) names ≡ k = first_at names k name d.1 at in
    let next : 1 + position_or_len (bytes_eq name) names ≡ suc k = omega (arith, later) in
    passed_by (bytes_eq name x) (position_or_len (bytes_eq name) names) (differs name x (All-at (λ other. other ≢ x) names k name d.0 at)) ∙ next

-- behind another name it is found one place later
pub found_behind : (first name : List ℕ) (names more : List (List ℕ)) (k : ℕ) → name ≢ first → AreDistinct (names ++ more) → slice_get names k ≡ Some name → position (bytes_eq name) (first ∷ names) ≡ Some (k + 1)
found_behind first name names more k ne d at =
    let later : position_or_len (bytes_eq name) names ≡ k = first_at names k name (distinct_front names more d) at in
    let next : 1 + position_or_len (bytes_eq name) names ≡ k + 1 = omega (arith, later) in
    let place : position_or_len (bytes_eq name) (first ∷ names) ≡ k + 1 = passed_by (bytes_eq name first) (position_or_len (bytes_eq name) names) (differs name first ne) ∙ next in
    let low : k < length names = slice_get_within names k name at in
    let within : nat_lt (k + 1) (length (first ∷ names)) ≡ true = lt-ltb (k + 1) (length (first ∷ names)) (omega arith) in
    rw (place, within) refl

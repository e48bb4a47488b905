-- Nodes picked one after another, those that lead to more before those that lead to fewer.
use Rattle.std.proofs.Common.{◌≡◌, ℕ, zero, suc, ◌+◌, ◌-◌, ◌/◌, ◌%◌, ◌<◌, ◌≤◌, List, [], ◌∷◌, ◌++◌, length, get_or, Some, inl, inr, refl, sym, subst, ap, ◌∙◌, arith}
use Rattle.std.specs.Prelude.{◌⊎◌, slice_get}
use Rattle.std.specs.Int.{bit_at}
use Rattle.std.proofs.lemmas.Bool.{cases_lt, cases_order}
use Rattle.std.proofs.lemmas.Nat.Bits.{bit_at-lt}
use Rattle.std.proofs.lemmas.Option.{same_Some, slice_get_within}
use Rattle.ap_desc.specs.declared.design.Node.{Node}
use Rattle.ap_desc.specs.declared.design.Node.TheVariants as node
use Rattle.ap_ports.specs.Flow.{Some_of}
use Rattle.ap_ports.specs.Numbers.{IsNumberedNode, number_of_node}
use Rattle.ap_ports.specs.Orders.{AreAhead, IsBy, IsPicked, bits_below}
use Rattle.ap_ports.specs.Ways.{Has}
use Rattle.ap_ports.specs.declared.ways.Ways.{Ways}
use Rattle.ap_ports.proofs.Added.{node_low, one_node}
use Rattle.ap_ports.proofs.Holding.{holds_either, holds_left, holds_right}

-- Places in a list with one element more.

get_push : {X : Type 0} (xs : List X) (x : X) (i : ℕ) (y : X) → slice_get (xs ++ x ∷ []) i ≡ Some y → (slice_get xs i ≡ Some y) ⊎ ((i ≡ length xs) × (x ≡ y))
get_push [] x zero y at = inr (refl, same_Some x y at)
get_push [] x (suc i) y at = absurd cc
get_push (z ∷ xs) x zero y at = inl at
get_push (z ∷ xs) x (suc i) y at = elim (get_push xs x i y at) [ inl old ↦ inl old | inr last ↦ inr (ap suc last.0, last.1) ]

pub some_get : {X : Type 0} (xs : List X) (x : X) → Some_of (λ y. y ≡ x) xs → (i : ℕ) × (slice_get xs i ≡ Some x)
some_get [] x h = absurd h
some_get (y ∷ xs) x (inl same) = (zero, ap Some same)
some_get (y ∷ xs) x (inr h) = let (i, at) = some_get xs x h in (suc i, at)

pub get_some : {X : Type 0} (xs : List X) (i : ℕ) (x : X) → slice_get xs i ≡ Some x → Some_of (λ y. y ≡ x) xs
get_some [] i x at = absurd cc
get_some (y ∷ xs) zero x at = inl (same_Some y x at)
get_some (y ∷ xs) (suc i) x at = inr (get_some xs i x at)

pub some_item : {X : Type 0} (P : X → Type 0) (xs : List X) → Some_of P xs → (i : ℕ) × (x : X) × (slice_get xs i ≡ Some x) × P x
some_item P [] h = absurd h
some_item P (x ∷ xs) (inl p) = (zero, x, refl, p)
some_item P (x ∷ xs) (inr h) = let (i, y, at, p) = some_item P xs h in (suc i, y, at, p)

pub item_some : {X : Type 0} (P : X → Type 0) (xs : List X) (i : ℕ) (x : X) → slice_get xs i ≡ Some x → P x → Some_of P xs
item_some P [] i x at p = absurd cc
item_some P (y ∷ xs) zero x at p = inl (subst P (sym (same_Some y x at)) p)
item_some P (y ∷ xs) (suc i) x at p = inr (item_some P xs i x at p)

-- Bits that are counted.

pub bits_le : (row k : ℕ) → bits_below row k ≤ k
unfolding bits_below
bits_le row zero = omega arith
bits_le row (suc k) = let rest = bits_le row k in let bit = bit_at-lt row k in omega arith

bit_le : (a b : ℕ) → a < 2 → b < 2 → (a ≡ 1 → b ≡ 1) → a ≤ b
bit_le a b low other up = elim (cases_lt 0 a) [ inl some ↦ (let one : a ≡ 1 = omega arith in let same = up one in omega arith) | inr none ↦ omega arith ]

bits_sub : (a b k : ℕ) → ((i : ℕ) → i < k → bit_at a i ≡ 1 → bit_at b i ≡ 1) → bits_below a k ≤ bits_below b k
unfolding bits_below
bits_sub a b zero up = omega arith
bits_sub a b (suc k) up =
    let rest = bits_sub a b k (λ i low. up i (omega arith)) in
    let bit = bit_le (bit_at a k) (bit_at b k) (bit_at-lt a k) (bit_at-lt b k) (up k (omega arith)) in
    omega arith

pub bits_less : (a b k n : ℕ) → ((i : ℕ) → i < k → bit_at a i ≡ 1 → bit_at b i ≡ 1) → n < k → (bit_at a n ≡ 1 → ⊥) → bit_at b n ≡ 1 → bits_below a k < bits_below b k
unfolding bits_below
bits_less a b zero n up low none one = absurd (omega arith)
bits_less a b (suc k) n up low none one = go (bits_less a b k n (λ i lower. up i (omega arith))) (cases_order n k) where
  go : (n < k → (bit_at a n ≡ 1 → ⊥) → bit_at b n ≡ 1 → bits_below a k < bits_below b k) → ((n ≡ k) ⊎ ((n < k) ⊎ (k < n))) → bits_below a k + bit_at a k < bits_below b k + bit_at b k
  go rest (inl same) =
      let sub = bits_sub a b k (λ i lower. up i (omega arith)) in
      let has : bit_at b k ≡ 1 = ap (bit_at b) (sym same) ∙ one in
      let small = bit_at-lt a k in
      elim (cases_lt 0 (bit_at a k)) [
        | inl some ↦ absurd (none (ap (bit_at a) same ∙ (let e : bit_at a k ≡ 1 = omega arith in e)))
        | inr zero_bit ↦ omega arith
      ]
  go rest (inr (inl less)) =
      let lower = rest less none one in
      let bit = bit_le (bit_at a k) (bit_at b k) (bit_at-lt a k) (bit_at-lt b k) (up k (omega arith)) in
      omega arith
  go rest (inr (inr more)) = absurd (omega arith)

-- Every number below 68 is that of a node.

pub node_of_number : (n : ℕ) → n < 68 → (x : Node) × IsNumberedNode x × (number_of_node x ≡ n)
node_of_number n low = elim (cases_lt n 32) [
  | inl unit ↦ (node.Unit n, unit, refl)
  | inr past ↦ elim (cases_lt n 64) [
    | inl file ↦ (node.FileRead ((n - 32) / 4) ((n - 32) % 4), (omega arith, omega arith), omega arith)
    | inr mem ↦ (node.MemRead (n - 64), omega arith, omega arith)
  ]
]

-- Picking.

module _ (nodes : ℕ) (ahead : List ℕ) where
  wider : (behind number : ℕ) (x : Node) → IsBy ahead behind number x → IsBy ahead behind (number + 1) x
  wider behind number x (inl more) = inl more
  wider behind number x (inr (turn, low)) = inr (turn, omega arith)

  pub picked_none : (ways : Ways) → AreAhead ways ahead → IsPicked nodes ahead 0 0 []
  picked_none ways are = record {
    low = λ x h. absurd h;
    all = λ x low has by. elim by [
      | inl more ↦ (let low_node = node_low x low in let is = are.1 (number_of_node x) low_node in let few = bits_le (get_or ways.rows (number_of_node x) 0) 68 in absurd (omega arith))
      | inr (turn, less) ↦ absurd (omega arith)
    ];
    once = λ x i j at there. absurd cc;
    falling = λ i j x y less at there. absurd cc;
  }

  pub picked_skip : (behind number : ℕ) (order : List Node) → (Has nodes number → get_or ahead number 0 + behind ≡ 68 → ⊥) → IsPicked nodes ahead behind number order → IsPicked nodes ahead behind (number + 1) order
  picked_skip behind number order none p = record {
    low = λ x some. (let (low, has, by) = p.low x some in (low, has, wider behind number x by));
    all = λ x low has by. p.all x low has (elim by [
      | inl more ↦ inl more
      | inr (turn, less) ↦ elim (cases_order (number_of_node x) number) [
        | inl same ↦ absurd (none (subst (Has nodes) same has) (ap (λ n. get_or ahead n 0 + behind) (sym same) ∙ turn))
        | inr (inl lower) ↦ inr (turn, lower)
        | inr (inr higher) ↦ absurd (omega arith)
      ]
    ]);
    once = p.once;
    falling = p.falling;
  }

  module _ (behind number : ℕ) (order : List Node) (p : IsPicked nodes ahead behind number order) (x : Node) (at : number_of_node x ≡ number) (x_low : IsNumberedNode x) (has_x : Has nodes number) (turn_x : get_or ahead number 0 + behind ≡ 68) where
    x_turn : get_or ahead (number_of_node x) 0 + behind ≡ 68
    x_turn = ap (λ n. get_or ahead n 0 + behind) at ∙ turn_x

    push_low : (y : Node) → Some_of (λ z. z ≡ y) (order ++ x ∷ []) → IsNumberedNode y × Has nodes (number_of_node y) × IsBy ahead behind (number + 1) y
    push_low y some = elim (holds_either (λ z. z ≡ y) order (x ∷ []) some) [
      | inl old ↦ (let (low, has, by) = p.low y old in (low, has, wider behind number y by))
      | inr last ↦ elim last [
        | inl same ↦ (subst IsNumberedNode same x_low, subst (λ z. Has nodes (number_of_node z)) same (subst (Has nodes) (sym at) has_x), subst (IsBy ahead behind (number + 1)) same (inr (x_turn, omega arith)))
        | inr none ↦ absurd none
      ]
    ]

    push_all : (y : Node) → IsNumberedNode y → Has nodes (number_of_node y) → IsBy ahead behind (number + 1) y → Some_of (λ z. z ≡ y) (order ++ x ∷ [])
    push_all y low has (inl more) = holds_left (λ z. z ≡ y) order (x ∷ []) (p.all y low has (inl more))
    push_all y low has (inr (turn, less)) = elim (cases_order (number_of_node y) number) [
      | inl same ↦ holds_right (λ z. z ≡ y) order (x ∷ []) (inl (one_node x y x_low low (at ∙ sym same)))
      | inr (inl lower) ↦ holds_left (λ z. z ≡ y) order (x ∷ []) (p.all y low has (inr (turn, lower)))
      | inr (inr higher) ↦ absurd (omega arith)
    ]

    -- it isn't picked yet
    fresh : (i : ℕ) (y : Node) → slice_get order i ≡ Some y → x ≡ y → ⊥
    fresh i y there same =
        let (low, has, by) = p.low y (get_some order i y there) in
        let is : number_of_node y ≡ number = ap number_of_node (sym same) ∙ at in
        elim by [
          | inl more ↦ (let turn : get_or ahead (number_of_node y) 0 + behind ≡ 68 = ap (λ n. get_or ahead n 0 + behind) is ∙ turn_x in absurd (omega arith))
          | inr (turn, less) ↦ absurd (omega arith)
        ]

    push_once : (y : Node) (i j : ℕ) → slice_get (order ++ x ∷ []) i ≡ Some y → slice_get (order ++ x ∷ []) j ≡ Some y → i ≡ j
    push_once y i j one other = elim (get_push order x i y one) [
      | inl old ↦ elim (get_push order x j y other) [ inl also ↦ p.once y i j old also | inr last ↦ absurd (fresh i y old last.1) ]
      | inr last ↦ elim (get_push order x j y other) [ inl also ↦ absurd (fresh j y also last.1) | inr too ↦ last.0 ∙ sym too.0 ]
    ]

    at_least : (i : ℕ) (y : Node) → slice_get order i ≡ Some y → 68 ≤ get_or ahead (number_of_node y) 0 + behind
    at_least i y there =
        let (low, has, by) = p.low y (get_some order i y there) in
        elim by [ inl more ↦ omega arith | inr (turn, less) ↦ omega arith ]

    push_falling : (i j : ℕ) (y z : Node) → i < j → slice_get (order ++ x ∷ []) i ≡ Some y → slice_get (order ++ x ∷ []) j ≡ Some z → get_or ahead (number_of_node z) 0 ≤ get_or ahead (number_of_node y) 0
    push_falling i j y z less one other = elim (get_push order x i y one) [
      | inl old ↦ elim (get_push order x j z other) [
        | inl also ↦ p.falling i j y z less old also
        | inr last ↦
            let least = at_least i y old in
            let turn : get_or ahead (number_of_node z) 0 + behind ≡ 68 = ap (λ n. get_or ahead (number_of_node n) 0 + behind) (sym last.1) ∙ x_turn in
            omega arith
      ]
      | inr last ↦ elim (get_push order x j z other) [
        | inl also ↦ (let within = slice_get_within order j z also in let end = last.0 in absurd (omega arith))
        | inr too ↦ (let end = last.0 in let other_end = too.0 in absurd (omega arith))
      ]
    ]

    pub picked_push : IsPicked nodes ahead behind (number + 1) (order ++ x ∷ [])
    picked_push = record { low = push_low; all = push_all; once = push_once; falling = push_falling }

  pub picked_turn : (behind number : ℕ) (order : List Node) → 68 ≤ number → IsPicked nodes ahead behind number order → IsPicked nodes ahead (behind + 1) 0 order
  picked_turn behind number order past p = record {
    low = λ x some. (let (low, has, by) = p.low x some in (low, has, elim by [ inl more ↦ inl (omega arith) | inr (turn, less) ↦ inl (omega arith) ]));
    all = λ x low has by. p.all x low has (elim by [
      | inl more ↦ elim (cases_order (get_or ahead (number_of_node x) 0 + behind) 68) [
        | inl turn ↦ (let low_node = node_low x low in inr (turn, omega arith))
        | inr (inl fewer) ↦ absurd (omega arith)
        | inr (inr above) ↦ inl (omega arith)
      ]
      | inr (turn, less) ↦ absurd (omega arith)
    ]);
    once = p.once;
    falling = p.falling;
  }

pub bits_more : (row k : ℕ) → bits_below row (k + 1) ≡ bits_below row k + bit_at row k
unfolding bits_below
bits_more row k = ap (bits_below row) (let e : k + 1 ≡ suc k = omega arith in e)

pub bits_with : (row k count : ℕ) → count ≡ bits_below row k → bit_at row k ≡ 1 → count + 1 ≡ bits_below row (k + 1)
bits_with row k count so_far one = let more = bits_more row k in omega arith

pub bits_without : (row k count : ℕ) → count ≡ bits_below row k → (bit_at row k ≡ 1 → ⊥) → count ≡ bits_below row (k + 1)
bits_without row k count so_far none = elim (cases_lt 0 (bit_at row k)) [
  | inl some ↦ (let small = bit_at-lt row k in absurd (none (omega arith)))
  | inr no_bit ↦ (let more = bits_more row k in omega arith)
]

pub bits_none : (row : ℕ) → 0 ≡ bits_below row 0
unfolding bits_below
bits_none row = refl

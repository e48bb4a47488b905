-- The drivers of the cells, and what they say.
use Rattle.std.proofs.Common.{◌≡◌, ℕ, zero, suc, ◌+◌, ◌<◌, List, [], ◌∷◌, ◌++◌, length, map, take, get_or, Some, refl, sym, ap, subst, ◌∙◌, arith}
use Rattle.std.specs.Prelude.{slice_get}
use Rattle.std.specs.List.{AllByRecursion as Each, range_with_len}
use Rattle.ap_net.specs.declared.cell.Wire.{Wire}
use Rattle.ap_net.specs.declared.net.Next.{Next}
use Rattle.ap_net.specs.Wiring.{Unclocked}
use Rattle.ap_net.specs.Ready.{numbers}
use Rattle.ap_store.specs.Writers.{paired}

-- one pair more
pub paired_more : (cells nets : List Wire) (i : ℕ) (c n : Wire) → i < length cells → length nets ≡ length cells
    → paired (take (i + 1) cells) (take (i + 1) nets) ≡ paired (take i cells) (take i nets) ++ record { register = get_or cells i c; from = get_or nets i n } ∷ []
paired_more [] nets i c n lt long = absurd (omega arith)
paired_more (x ∷ cells) [] i c n lt long = absurd (omega arith)
paired_more (x ∷ cells) (y ∷ nets) zero c n lt long = refl
paired_more (x ∷ cells) (y ∷ nets) (suc i) c n lt long =
    let next : suc i + 1 ≡ suc (i + 1) = omega arith in
    ap (λ k. paired (take k (x ∷ cells)) (take k (y ∷ nets))) next ∙ ap (λ l. record { register = x; from = y } ∷ l) (paired_more cells nets i c n (omega arith) (omega arith))

-- all of them
pub paired_all : (cells nets : List Wire) (i : ℕ) → i ≡ length cells → length nets ≡ length cells → paired (take i cells) (take i nets) ≡ paired cells nets
paired_all [] nets i e long = ap (λ k. paired (take k []) (take k nets)) e
paired_all (x ∷ cells) [] i e long = absurd (omega arith)
paired_all (x ∷ cells) (y ∷ nets) i e long =
    ap (λ k. paired (take k (x ∷ cells)) (take k (y ∷ nets))) e ∙ ap (λ l. record { register = x; from = y } ∷ l) (paired_all cells nets (length cells) refl (omega arith))

-- what holds of the pairs holds of each
pub pair_at : (P : Next → Type 0) (cells nets : List Wire) (i : ℕ) (c n : Wire) → i < length cells → length nets ≡ length cells → Each P (paired cells nets) → P (record { register = get_or cells i c; from = get_or nets i n })
pair_at P [] nets i c n lt long h = absurd (omega arith)
pair_at P (x ∷ cells) [] i c n lt long h = absurd (omega arith)
pair_at P (x ∷ cells) (y ∷ nets) zero c n lt long h = h.0
pair_at P (x ∷ cells) (y ∷ nets) (suc i) c n lt long h = pair_at P cells nets i c n (omega arith) (omega arith) h.1

-- cells that are numbered in a row: none of the first is the one after them
unclocked_from : (cells nets : List Wire) (a i : ℕ) → numbers cells ≡ range_with_len a (length cells) → Unclocked (paired (take i cells) (take i nets)) (a + i)
unclocked_from [] nets a i e = nothing i
  where
    nothing : (i : ℕ) → Unclocked (paired (take i []) (take i nets)) (a + i)
    nothing zero = tt
    nothing (suc i) = tt
unclocked_from (x ∷ cells) nets a zero e = tt
unclocked_from (x ∷ cells) [] a (suc i) e = tt
unclocked_from (x ∷ cells) (y ∷ nets) a (suc i) e =
    let first : x.number ≡ a = cc in
    let rest : numbers cells ≡ range_with_len (a + 1) (length cells) = cc in
    let here : a + 1 + i ≡ a + suc i = omega arith in
    (λ same. absurd (omega arith), subst (λ k. Unclocked (paired (take i cells) (take i nets)) k) here (unclocked_from cells nets (a + 1) i rest))

pub number_at : (cells : List Wire) (i : ℕ) (c : Wire) → numbers cells ≡ range_with_len 0 (length cells) → i < length cells → (get_or cells i c).number ≡ i
number_at cells i c e lt = from_row cells 0 i c e lt ∙ (let zero_add : 0 + i ≡ i = omega arith in zero_add)
  where
    from_row : (cells : List Wire) (a i : ℕ) (c : Wire) → numbers cells ≡ range_with_len a (length cells) → i < length cells → (get_or cells i c).number ≡ a + i
    from_row [] a i c e lt = absurd (omega arith)
    from_row (x ∷ cells) a zero c e lt = let first : x.number ≡ a = cc in omega arith
    from_row (x ∷ cells) a (suc i) c e lt =
        let rest : numbers cells ≡ range_with_len (a + 1) (length cells) = cc in
        let next = from_row cells (a + 1) i c rest (omega arith) in
        omega arith

pub unclocked_at : (cells nets : List Wire) (i : ℕ) (c : Wire) → numbers cells ≡ range_with_len 0 (length cells) → i < length cells → Unclocked (paired (take i cells) (take i nets)) (get_or cells i c).number
unclocked_at cells nets i c e lt =
    let here : 0 + i ≡ i = omega arith in
    subst (λ k. Unclocked (paired (take i cells) (take i nets)) k) (here ∙ sym (number_at cells i c e lt)) (unclocked_from cells nets 0 i e)

-- the registers of pairs, and what they take
pub paired_registers : (cells nets : List Wire) → length nets ≡ length cells → map (λ (x : Next). x.register) (paired cells nets) ≡ cells
paired_registers [] nets long = refl
paired_registers (x ∷ cells) [] long = absurd (omega arith)
paired_registers (x ∷ cells) (y ∷ nets) long = ap (λ l. x ∷ l) (paired_registers cells nets (omega arith))

pub paired_from : (read : ℕ → ℕ) (cells nets : List Wire) → length nets ≡ length cells → map (λ (x : Next). read x.from.number) (paired cells nets) ≡ map (λ (w : Wire). read w.number) nets
paired_from read [] [] long = refl
paired_from read [] (y ∷ nets) long = absurd (omega arith)
paired_from read (x ∷ cells) [] long = absurd (omega arith)
paired_from read (x ∷ cells) (y ∷ nets) long = ap (λ l. read y.number ∷ l) (paired_from read cells nets (omega arith))

pub paired_held : (read : ℕ → ℕ) (cells nets : List Wire) → length nets ≡ length cells → map (λ (x : Next). read x.register.number) (paired cells nets) ≡ map (λ (w : Wire). read w.number) cells
paired_held read [] nets long = refl
paired_held read (x ∷ cells) [] long = absurd (omega arith)
paired_held read (x ∷ cells) (y ∷ nets) long = ap (λ l. read x.number ∷ l) (paired_held read cells nets (omega arith))

-- what holds of each pair, where it holds at each place
pub each_pair : (P : Next → Type 0) (cells nets : List Wire) → length nets ≡ length cells
    → ((i : ℕ) (c n : Wire) → slice_get cells i ≡ Some c → slice_get nets i ≡ Some n → P (record { register = c; from = n })) → Each P (paired cells nets)
each_pair P [] nets long f = tt
each_pair P (x ∷ cells) [] long f = absurd (omega arith)
each_pair P (x ∷ cells) (y ∷ nets) long f = (f zero x y refl refl, each_pair P cells nets (omega arith) (λ i c n p q. f (suc i) c n p q))

-- what stands for a net where there is none
abbrev pub none : Wire
none = record { number = 0; width = 0 }

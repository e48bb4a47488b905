-- What the nets of writers read.
use Rattle.std.proofs.Common.{◌≡◌, ℕ, zero, suc, ◌-◌, List, [], ◌∷◌, length, map, take, drop, Option, Some, inl, inr, refl, sym, ap, subst, ◌∙◌, ⊎_elim, length-drop, arith}
use Rattle.std.specs.Prelude.{option_to_list}
use Rattle.std.proofs.lemmas.List.{take_all}
use Rattle.std.proofs.lemmas.Option.{same_Some}
use Rattle.ap_net.specs.declared.cell.Wire.{Wire}
use Rattle.ap_net.specs.Draft.{Draft}
use Rattle.ap_net.specs.Pending.{Among, Yields}
use Rattle.ap_net.specs.Ready.{numbers}
use Rattle.ap_net.proofs.Laws.{Reads-refl, Yields-after}
use Rattle.ap_stage.specs.declared.offer.Offer.{Offer}
use Rattle.ap_stage.specs.Offers.{nets_of, numbers_of}
use Rattle.ap_stage.specs.Wiring.{IsWiring}
use Rattle.ap_stage.proofs.Choosing.{each_from}
use Rattle.ap_stage.proofs.Listed.{among_left, among_right, among_split}
use Rattle.ap_stage.proofs.Wired.{all_of, each_of, wiring_fewer, wiring_two}
use Rattle.std.specs.List.{AllByRecursion as Each}
use Rattle.ap_effect.specs.declared.write.Writer.{Writer}
use Rattle.ap_effect.specs.Writers.{writer_numbers, writing_numbers}
use Rattle.ap_effect.proofs.Offered.{AreOffers, index_of, value_of}

second_half : {X : Type 0} (n : ℕ) (xs : List X) → take (length xs - n) (drop n xs) ≡ drop n xs
second_half n xs = take_all (length xs - n) (drop n xs) (omega (arith, length-drop n xs))

pub second_length : {X : Type 0} (n : ℕ) (xs : List X) → length (take (length xs - n) (drop n xs)) ≡ length xs - n
second_length n xs = ap length (second_half n xs) ∙ length-drop n xs

pub Yields-fewer : (from more : List ℕ) (a b : Draft) (w : Wire) → ((n : ℕ) → Among more n → Among from n) → Yields more a b w → Yields from a b w
Yields-fewer from more a b w sub y = Yields-after from more a a b w (Reads-refl from a) y (each_from from a a more sub)

pub each_in : (from more : List ℕ) → ((n : ℕ) → Among more n → Among from n) → Each (Among from) more
each_in from more sub = each_of (Among from) more more sub (all_of more)

-- the parts of a writer are among its nets
pub value_among : (w : Writer) (x : Wire) → value_of w ≡ Some x → Among (writer_numbers w) x.number
value_among w x is = inr (inl (ap (λ (y : Wire). y.number) (same_Some w.value x is)))

pub guard_among : (w : Writer) (guard : Wire) → w.guard ≡ Some guard → Among (writer_numbers w) guard.number
guard_among w guard is = inr (inr (among_left (numbers (option_to_list w.guard)) (numbers (option_to_list w.index)) guard.number (subst (λ o. Among (numbers (option_to_list o)) guard.number) (sym is) (inl refl))))

pub index_among : (w : Writer) (index : Wire) → index_of w ≡ Some index → Among (writer_numbers w) index.number
index_among w index is = inr (inr (among_right (numbers (option_to_list w.guard)) (numbers (option_to_list w.index)) index.number (subst (λ o. Among (numbers (option_to_list o)) index.number) (sym is) (inl refl))))

-- the nets of the first writers, and of the others, are among those of all
among_first : (n : ℕ) (writers : List Writer) (m : ℕ) → Among (writing_numbers (take n writers)) m → Among (writing_numbers writers) m
among_first zero writers m h = absurd h
among_first (suc n) [] m h = absurd h
among_first (suc n) (w ∷ writers) m h = ⊎_elim (among_left (writer_numbers w) (writing_numbers writers) m) (λ later. among_right (writer_numbers w) (writing_numbers writers) m (among_first n writers m later)) (among_split (writer_numbers w) (writing_numbers (take n writers)) m h)

among_last : (n : ℕ) (writers : List Writer) (m : ℕ) → Among (writing_numbers (drop n writers)) m → Among (writing_numbers writers) m
among_last zero writers m h = h
among_last (suc n) [] m h = absurd h
among_last (suc n) (w ∷ writers) m h = among_right (writer_numbers w) (writing_numbers writers) m (among_last n writers m h)

-- one of two halves
pub halves_wiring : (n : ℕ) (writers : List Writer) (a b c d : Draft) (x y w : Wire) → IsWiring (writing_numbers (take n writers)) a b x → IsWiring (writing_numbers (take (length writers - n) (drop n writers))) b c y → IsWiring (x.number ∷ y.number ∷ []) c d w → IsWiring (writing_numbers writers) a d w
halves_wiring n writers a b c d x y w first second any =
    let from : List ℕ = writing_numbers writers in
    let one = wiring_fewer from (writing_numbers (take n writers)) a b x first (each_in from (writing_numbers (take n writers)) (among_first n writers)) in
    let rest = subst (λ l. IsWiring (writing_numbers l) b c y) (second_half n writers) second in
    let other = wiring_fewer from (writing_numbers (drop n writers)) b c y rest (each_in from (writing_numbers (drop n writers)) (among_last n writers)) in
    wiring_two from (x.number ∷ y.number ∷ []) a b c d x y w one other any (inl refl, (inr (inl refl), tt))

-- what offers of writers read
module _ (f : Writer → Option Wire) (part : (w : Writer) (x : Wire) → f w ≡ Some x → Among (writer_numbers w) x.number) where
  conds_among : (offers : List Offer) (writers : List Writer) (n : ℕ) → AreOffers f offers writers → Among (map (λ (o : Offer). o.cond.number) offers) n → Among (writing_numbers writers) n
  conds_among [] writers n are h = absurd h
  conds_among (o ∷ offers) [] n are h = absurd are
  conds_among (o ∷ offers) (w ∷ writers) n are (inl e) = among_left (writer_numbers w) (writing_numbers writers) n (inl (ap (λ (x : Wire). x.number) (sym are.0) ∙ e))
  conds_among (o ∷ offers) (w ∷ writers) n are (inr h) = among_right (writer_numbers w) (writing_numbers writers) n (conds_among offers writers n are.2 h)

  nets_among : (offers : List Offer) (writers : List Writer) (n : ℕ) → AreOffers f offers writers → Among (nets_of offers) n → Among (writing_numbers writers) n
  nets_among [] writers n are h = absurd h
  nets_among (o ∷ offers) [] n are h = absurd are
  nets_among (o ∷ offers) (w ∷ writers) n are (inl e) = among_left (writer_numbers w) (writing_numbers writers) n (subst (Among (writer_numbers w)) e (part w o.net are.1))
  nets_among (o ∷ offers) (w ∷ writers) n are (inr h) = among_right (writer_numbers w) (writing_numbers writers) n (nets_among offers writers n are.2 h)

  pub offers_read : (offers : List Offer) (writers : List Writer) (a b : Draft) (y : Wire) → AreOffers f offers writers → Yields (numbers_of offers) a b y → Yields (writing_numbers writers) a b y
  offers_read offers writers a b y are h = Yields-fewer (writing_numbers writers) (numbers_of offers) a b y (λ n among. ⊎_elim (conds_among offers writers n are) (nets_among offers writers n are) (among_split (map (λ (o : Offer). o.cond.number) offers) (nets_of offers) n among)) h

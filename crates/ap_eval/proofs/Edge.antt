-- What a bench holds after the edge of a cycle, and the row that the cycle shows.
use Rattle.std.proofs.Common.{◌≡◌, ◌≢◌, ℕ, suc, ◌+◌, ◌*◌, ◌<◌, ◌≤◌, ◌⊎◌, ◌==◌, inl, inr, List, [], ◌∷◌, ◌++◌, length, map, Option, Some, None, Bool, true, false, refl, sym, ap, subst, ◌∙◌, arith, set, eq-eqb}
use Rattle.std.specs.Prelude.{codes, slice_index, if◌then◌else◌}
use Rattle.std.specs.List.{AllByRecursion as Each}
use Rattle.std.proofs.lemmas.List.{get_or-set_same, get_or-set_other, length-set}
use Rattle.std.proofs.lemmas.Bool.Decides.{Decides-eqb}
use Rattle.ap_image.specs.declared.row.Write.{Write}
use Rattle.ap_image.specs.declared.shape.MemShape.{MemShape}
use Rattle.ap_image.specs.FitsShape.{MemsFit}
use Rattle.ap_image.specs.Words.{with_word}
use Rattle.ap_net.specs.declared.net.FlatNet.{FlatNet}
use Rattle.ap_net.specs.declared.net.Next.{Next}
use Rattle.ap_net.specs.declared.net.Port.{Port}
use Rattle.ap_net.specs.Wiring.{ClockedOnce, Unclocked}
use Rattle.ap_net.specs.Registers.{held}
use Rattle.ap_net.specs.Runs.{mems_after}
use Rattle.ap_net.specs.Rows.{group_writes, index_of, mem_writes}
use Rattle.ap_net.specs.Flat.{value_named}
use Rattle.ap_net.specs.Outside.{FilePort, Group, group_name, group_ports, index_port, mem_name, mem_ports, output}
use Rattle.ap_net.proofs.Answered.{PortsNamed}
use Rattle.ap_eval.specs.declared.op.Op.{Op}
use Rattle.ap_eval.specs.declared.spot.Spot.{Spot}
use Rattle.ap_eval.specs.Cells.{Cells, rooms_of, words_of}
use Rattle.ap_eval.specs.Ops.{computed, data_after, give_all, shape_value}
use Rattle.ap_eval.specs.Spots.{group_ports_count, group_size, group_spot, group_spots, mem_spots, writes_by}

pub computed-length : (load : ℕ → ℕ → ℕ) (ops : List Op) (values : List ℕ) → length (computed load ops values) ≡ length values
computed-length load [] values = refl
computed-length load (x ∷ ops) values = computed-length load ops (set values x.to (shape_value (slice_index values) load x.shape)) ∙ length-set values x.to (shape_value (slice_index values) load x.shape)

-- Registers. ---------------------------------------------------------------------------------------------------------------

pub give_all-length : (nexts : List Next) (taken values : List ℕ) → length (give_all nexts taken values) ≡ length values
give_all-length [] taken values = refl
give_all-length (x ∷ nexts) [] values = refl
give_all-length (x ∷ nexts) (y ∷ taken) values = give_all-length nexts taken (set values x.register.number y) ∙ length-set values x.register.number y

pub give_all-other : (nexts : List Next) (taken values : List ℕ) (n : ℕ) → Unclocked nexts n → slice_index (give_all nexts taken values) n ≡ slice_index values n
give_all-other [] taken values n none = refl
give_all-other (x ∷ nexts) [] values n none = refl
give_all-other (x ∷ nexts) (y ∷ taken) values n none = give_all-other nexts taken (set values x.register.number y) n none.1 ∙ get_or-set_other values x.register.number n y 0 (λ e. none.0 (sym e))

lengths_same : (nexts : List Next) (values : List ℕ) (n y : ℕ) → Each (λ (x : Next). x.register.number < length values) nexts → Each (λ (x : Next). x.register.number < length (set values n y)) nexts
lengths_same nexts values n y h = let e : length values ≡ length (set values n y) = sym (length-set values n y) in subst (λ k. Each (λ (x : Next). x.register.number < k) nexts) e h

pub give_all-registers : (nexts : List Next) (taken values : List ℕ) → ClockedOnce nexts → Each (λ (x : Next). x.register.number < length values) nexts → length taken ≡ length nexts
    → map (λ (x : Next). slice_index (give_all nexts taken values) x.register.number) nexts ≡ taken
give_all-registers [] [] values once low long = refl
give_all-registers [] (y ∷ taken) values once low long = absurd (omega arith)
give_all-registers (x ∷ nexts) [] values once low long = absurd (omega arith)
give_all-registers (x ∷ nexts) (y ∷ taken) values once low long =
    let head : slice_index (give_all nexts taken (set values x.register.number y)) x.register.number ≡ y =
    give_all-other nexts taken (set values x.register.number y) x.register.number once.0 ∙ get_or-set_same values x.register.number y 0 low.0 in
    let tail = give_all-registers nexts taken (set values x.register.number y) once.1 (lengths_same nexts values x.register.number y low.1) (omega arith) in
    λ i. head i ∷ tail i

zero_held : (x : Next) (nexts : List Next) (n : ℕ) → (x.register.number == n) ≡ false → ((r : List ℕ) → held nexts r n ≡ 0) → (r : List ℕ) → held (x ∷ nexts) r n ≡ 0
zero_held x nexts n e h [] = refl
zero_held x nexts n e h (y ∷ r) = rw e (h r)

-- what is held where registers' values are read at their nets
pub held_read : (read : ℕ → ℕ) (nexts : List Next) (n : ℕ) → (held nexts (map (λ (x : Next). read x.register.number) nexts) n ≡ read n) ⊎ (Unclocked nexts n × ((r : List ℕ) → held nexts r n ≡ 0))
held_read read [] n = inr (tt, λ r. refl)
held_read read (x ∷ nexts) n = go (x.register.number == n) refl (held_read read nexts n)
  where
    go : (b : Bool) → (x.register.number == n) ≡ b → (held nexts (map (λ (y : Next). read y.register.number) nexts) n ≡ read n) ⊎ (Unclocked nexts n × ((r : List ℕ) → held nexts r n ≡ 0))
        → ((if x.register.number == n then read x.register.number else held nexts (map (λ (y : Next). read y.register.number) nexts) n) ≡ read n)
        ⊎ (((x.register.number ≢ n) × Unclocked nexts n) × ((r : List ℕ) → held (x ∷ nexts) r n ≡ 0))
    go true e rest = let same : x.register.number ≡ n = (Decides-eqb x.register.number n).0 e in inl (rw e (ap read same))
    go false e (inl h) = inl (rw e h)
    go false e (inr h) = inr (((λ same. let yes_it : (x.register.number == n) ≡ true = eq-eqb x.register.number n same in cc), h.0), zero_held x nexts n e h.1)

-- Memories. ----------------------------------------------------------------------------------------------------------------

pub data_after-rooms : (read : ℕ → ℕ) (port : ℕ) (cells : List Cells) → rooms_of (data_after read port cells) ≡ rooms_of cells
data_after-rooms read port [] = refl
data_after-rooms read port (c ∷ cells) = ap (λ (l : List ℕ). c.room ∷ l) (data_after-rooms read (port + 5) cells)

pub data_after-words : (nets : List FlatNet) (v : List ℕ) (read : ℕ → ℕ) (top : ℕ) → ((n : ℕ) → n < top → read n ≡ slice_index v n) → (ms : List MemShape) (cells : List Cells) (port : ℕ) (rest : List Port) → MemsFit (words_of cells) ms
    → port + 5 * length ms ≤ top → PortsNamed nets v port (mem_ports ms ++ rest) → words_of (data_after read port cells) ≡ mems_after nets v ms (words_of cells)
data_after-words nets v read top agree [] [] port rest fits room named = refl
data_after-words nets v read top agree [] (c ∷ cells) port rest fits room named = absurd fits
data_after-words nets v read top agree (m ∷ ms) [] port rest fits room named = absurd fits
data_after-words nets v read top agree (m ∷ ms) (c ∷ cells) port rest fits room named =
    let two : suc (suc port) ≡ port + 2 = omega arith in
    let three : suc (suc (suc port)) ≡ port + 3 = omega arith in
    let four : suc (suc (suc (suc port))) ≡ port + 4 = omega arith in
    let five : suc (suc (suc (suc (suc port)))) ≡ port + 5 = omega arith in
    let we : read (port + 2) ≡ value_named nets v (mem_name m (codes "we")) = agree (port + 2) (omega arith) ∙ ap (slice_index v) (sym two) ∙ sym named.1.1.0 in
    let wa : read (port + 3) ≡ value_named nets v (mem_name m (codes "wa")) = agree (port + 3) (omega arith) ∙ ap (slice_index v) (sym three) ∙ sym named.1.1.1.0 in
    let wd : read (port + 4) ≡ value_named nets v (mem_name m (codes "wd")) = agree (port + 4) (omega arith) ∙ ap (slice_index v) (sym four) ∙ sym named.1.1.1.1.0 in
    let tail = data_after-words nets v read top agree ms cells (port + 5) rest fits.1 (omega arith) (subst (λ n. PortsNamed nets v n (mem_ports ms ++ rest)) five named.1.1.1.1.1) in
    λ i. (if (we i) == 1 then with_word c.words (wa i) (wd i) else c.words) ∷ tail i

-- The row. -----------------------------------------------------------------------------------------------------------------

pub named_past_mems : (nets : List FlatNet) (v : List ℕ) (ms : List MemShape) (n : ℕ) (rest : List Port) → PortsNamed nets v n (mem_ports ms ++ rest) → PortsNamed nets v (n + 5 * length ms) rest
named_past_mems nets v [] n rest named = let e : n ≡ n + 5 * 0 = omega arith in subst (λ k. PortsNamed nets v k rest) e named
named_past_mems nets v (m ∷ ms) n rest named =
    let e : suc (suc (suc (suc (suc n)))) + 5 * length ms ≡ n + 5 * suc (length ms) = omega arith in
    subst (λ k. PortsNamed nets v k rest) e (named_past_mems nets v ms (suc (suc (suc (suc (suc n))))) rest named.1.1.1.1.1)

-- what a write's choice comes to
chosen : (a b : ℕ) (w x : Write) (more other : List Write) → a ≡ b → w ≡ x → more ≡ other → (if a == 1 then w ∷ more else more) ≡ (if b == 1 then x ∷ other else other)
chosen a b w x more other p q r = λ i. if (p i) == 1 then q i ∷ r i else r i

write_of : (g : ℕ) (i j : Option ℕ) (x y : ℕ) → i ≡ j → x ≡ y → (let w : Write = record { group = g; index = i; value = x } in w) ≡ record { group = g; index = j; value = y }
write_of g i j x y p q = λ k. record { group = g; index = p k; value = q k }

pub mem_spots-writes : (nets : List FlatNet) (v shown : List ℕ) (top : ℕ) → ((n : ℕ) → n < top → slice_index shown n ≡ slice_index v n) → (ms : List MemShape) (n port : ℕ) (rest : List Port) → port + 5 * length ms ≤ top
    → PortsNamed nets v port (mem_ports ms ++ rest) → writes_by shown n (mem_spots port ms) ≡ mem_writes nets v n ms
mem_spots-writes nets v shown top agree [] n port rest room named = refl
mem_spots-writes nets v shown top agree (m ∷ ms) n port rest room named =
    let two : suc (suc port) ≡ port + 2 = omega arith in
    let three : suc (suc (suc port)) ≡ port + 3 = omega arith in
    let four : suc (suc (suc (suc port))) ≡ port + 4 = omega arith in
    let five : suc (suc (suc (suc (suc port)))) ≡ port + 5 = omega arith in
    let we : slice_index shown (port + 2) ≡ value_named nets v (mem_name m (codes "we")) = agree (port + 2) (omega arith) ∙ ap (slice_index v) (sym two) ∙ sym named.1.1.0 in
    let wa : slice_index shown (port + 3) ≡ value_named nets v (mem_name m (codes "wa")) = agree (port + 3) (omega arith) ∙ ap (slice_index v) (sym three) ∙ sym named.1.1.1.0 in
    let wd : slice_index shown (port + 4) ≡ value_named nets v (mem_name m (codes "wd")) = agree (port + 4) (omega arith) ∙ ap (slice_index v) (sym four) ∙ sym named.1.1.1.1.0 in
    let tail = mem_spots-writes nets v shown top agree ms (n + 1) (port + 5) rest (omega arith) (subst (λ k. PortsNamed nets v k (mem_ports ms ++ rest)) five named.1.1.1.1.1) in
    chosen _ _ _ _ _ _ we (write_of n (Some (slice_index shown (port + 3))) (Some (value_named nets v (mem_name m (codes "wa")))) (slice_index shown (port + 4)) (value_named nets v (mem_name m (codes "wd"))) (ap Some wa) wd) tail

joined : (b : Bool) (x : Write) (front back whole : List Write) → whole ≡ front ++ back → (if b then x ∷ whole else whole) ≡ (if b then x ∷ front else front) ++ back
joined true x front back whole e = ap (λ (l : List Write). x ∷ l) e
joined false x front back whole e = e

pub group_spots-writes : (nets : List FlatNet) (v shown : List ℕ) (top : ℕ) → ((n : ℕ) → n < top → slice_index shown n ≡ slice_index v n) → (more : List Spot) (gs : List Group) (n port : ℕ) → port + group_ports_count gs ≤ top
    → PortsNamed nets v port (group_ports gs) → writes_by shown n (group_spots port gs ++ more) ≡ group_writes nets v n gs ++ writes_by shown (n + length gs) more
group_spots-writes nets v shown top agree more [] n port room named = let e : n ≡ n + 0 = omega arith in ap (λ k. writes_by shown k more) e
group_spots-writes nets v shown top agree more (g ∷ gs) n port room named = go g.port named room (λ p low there. group_spots-writes nets v shown top agree more gs (n + 1) p low there)
  where
    go : (q : Option FilePort) → PortsNamed nets v port ((output (group_name g (codes "e")) 1 ∷ index_port g q) ++ output (group_name g (codes "v")) g.width ∷ group_ports gs) → port + (group_size q + group_ports_count gs) ≤ top
        → ((p : ℕ) → p + group_ports_count gs ≤ top → PortsNamed nets v p (group_ports gs) → writes_by shown (n + 1) (group_spots p gs ++ more) ≡ group_writes nets v (n + 1) gs ++ writes_by shown (n + 1 + length gs) more)
        → writes_by shown n (group_spot port q ∷ (group_spots (port + group_size q) gs ++ more))
        ≡ (if value_named nets v (group_name g (codes "e")) == 1 then record { group = n; index = index_of nets v g q; value = value_named nets v (group_name g (codes "v")) } ∷ group_writes nets v (n + 1) gs else group_writes nets v (n + 1) gs) ++ writes_by shown (n + suc (length gs)) more
    go None named room rest =
        let one : suc port ≡ port + 1 = omega arith in
        let two : suc (suc port) ≡ port + 2 = omega arith in
        let count : n + 1 + length gs ≡ n + suc (length gs) = omega arith in
        let en : slice_index shown port ≡ value_named nets v (group_name g (codes "e")) = agree port (omega arith) ∙ sym named.0 in
        let val : slice_index shown (port + 1) ≡ value_named nets v (group_name g (codes "v")) = agree (port + 1) (omega arith) ∙ ap (slice_index v) (sym one) ∙ sym named.1.0 in
        let tail = rest (port + 2) (omega arith) (subst (λ k. PortsNamed nets v k (group_ports gs)) two named.1.1) ∙ ap (λ k. group_writes nets v (n + 1) gs ++ writes_by shown k more) count in
        chosen _ _ _ _ (writes_by shown (n + 1) (group_spots (port + 2) gs ++ more)) (writes_by shown (n + 1) (group_spots (port + 2) gs ++ more)) en (write_of n None None (slice_index shown (port + 1)) (value_named nets v (group_name g (codes "v"))) refl val) refl
        ∙ joined (value_named nets v (group_name g (codes "e")) == 1) (record { group = n; index = None; value = value_named nets v (group_name g (codes "v")) }) (group_writes nets v (n + 1) gs) (writes_by shown (n + suc (length gs)) more) (writes_by shown (n + 1) (group_spots (port + 2) gs ++ more)) tail
    go (Some file) named room rest =
        let one : suc port ≡ port + 1 = omega arith in
        let two : suc (suc port) ≡ port + 2 = omega arith in
        let three : suc (suc (suc port)) ≡ port + 3 = omega arith in
        let count : n + 1 + length gs ≡ n + suc (length gs) = omega arith in
        let en : slice_index shown port ≡ value_named nets v (group_name g (codes "e")) = agree port (omega arith) ∙ sym named.0 in
        let ix : slice_index shown (port + 1) ≡ value_named nets v (group_name g (codes "x")) = agree (port + 1) (omega arith) ∙ ap (slice_index v) (sym one) ∙ sym named.1.0 in
        let val : slice_index shown (port + 2) ≡ value_named nets v (group_name g (codes "v")) = agree (port + 2) (omega arith) ∙ ap (slice_index v) (sym two) ∙ sym named.1.1.0 in
        let tail = rest (port + 3) (omega arith) (subst (λ k. PortsNamed nets v k (group_ports gs)) three named.1.1.1) ∙ ap (λ k. group_writes nets v (n + 1) gs ++ writes_by shown k more) count in
        chosen _ _ _ _ (writes_by shown (n + 1) (group_spots (port + 3) gs ++ more)) (writes_by shown (n + 1) (group_spots (port + 3) gs ++ more)) en (write_of n (Some (slice_index shown (port + 1))) (Some (value_named nets v (group_name g (codes "x")))) (slice_index shown (port + 2)) (value_named nets v (group_name g (codes "v"))) (ap Some ix) val) refl
        ∙ joined (value_named nets v (group_name g (codes "e")) == 1) (record { group = n; index = Some (value_named nets v (group_name g (codes "x"))); value = value_named nets v (group_name g (codes "v")) }) (group_writes nets v (n + 1) gs) (writes_by shown (n + suc (length gs)) more) (writes_by shown (n + 1) (group_spots (port + 3) gs ++ more)) tail

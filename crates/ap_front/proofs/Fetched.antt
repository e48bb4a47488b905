-- What the pc takes.
use Rattle.std.proofs.Common.{◌≡◌, ℕ, zero, suc, length, ◌==◌, ◌+◌, ◌%◌, ◌^◌, ◌<◌, ◌≤◌, Bool, true, false, if◌then◌else◌, List, [], ◌∷◌, ◌++◌, refl, sym, ap, subst, ◌∙◌, arith, inl, inr}
use Rattle.std.specs.Prelude.{Contains}
use Rattle.std.proofs.lemmas.List.Elements.{Contains-push}
use Rattle.ap_net.specs.declared.cell.Wire.{Wire}
use Rattle.ap_net.specs.declared.net.Next.{Next}
use Rattle.ap_net.specs.declared.net.ModuleNet.{ModuleNet}
use Rattle.ap_net.specs.Draft.{Draft, Extends, CanFresh, names_of, wire_count, with_next}
use Rattle.ap_net.specs.Late.{StayLate}
use Rattle.ap_net.specs.Making.{Makes}
use Rattle.ap_net.specs.Modules.{ports_among}
use Rattle.ap_net.specs.Wiring.{names_taken}
use Rattle.ap_net.specs.Names.{HasFresh, IsNew}
use Rattle.ap_net.specs.Pending.{Yields}
use Rattle.ap_net.specs.Readings.{Carries, Reading}
use Rattle.ap_net.specs.Runs.{bit}
use Rattle.ap_net.proofs.Laws.{Carries-Extends, Carries-Makes, Extends-trans, ReadyAfter-Extends, Yields-after, meant, next_extends}
use Rattle.ap_ctl.specs.Building.{is_on}
use Rattle.ap_ctl.specs.Meaning.{Look, is_held, kills}
use Rattle.ap_flight.proofs.Steps.{Carries-width, Yields-fewer}
use Rattle.ap_border.specs.Fetch.{next_pc}
use Rattle.ap_front.specs.declared.fetch.Fetching.{Fetching}
use Rattle.ap_front.specs.Fetching.{DrivesFetch, FetchGivesBorder, FetchGoesOn, PcTakes, fetching_numbers}
use Rattle.ap_front.specs.Shown.{ShowsNet}
use Rattle.ap_front.proofs.Named.{IsNamed-Extends, IsResetNamed-Extends, TakesNet-Extends}

-- 1 fits every width
pub one_fits : (w : ℕ) → 1 ≤ w → 1 < 2 ^ w
one_fits zero h = absurd (omega arith)
one_fits (suc w) h = let positive : 1 ≤ 2 ^ w = power w in omega arith
  where
    power : (n : ℕ) → 1 ≤ 2 ^ n
    power zero = omega arith
    power (suc n) = let h = power n in omega arith

-- The next address.

pub after_value : {b c : Draft} (net one after : Wire) → Makes b c → Carries b net.width (λ r x. x ≡ 1) one → Carries c net.width (λ r x. x ≡ (r.read net.number + r.read one.number) % 2 ^ net.width) after
    → Carries c net.width (λ r x. x ≡ (r.read net.number + 1) % 2 ^ net.width) after
after_value net one after m o h = meant (λ r s e. e ∙ ap (λ n. (r.read net.number + n) % 2 ^ net.width) ((Carries-Makes m o).means.holds r s)) h

pub after_from : (net : Wire) (a b c : Draft) (one after : Wire) → Yields [] a b one → Yields (net.number ∷ one.number ∷ []) b c after → Yields (net.number ∷ []) a c after
after_from net a b c one after first second =
    let from : List ℕ = net.number ∷ [] in
    let y = Yields-fewer from [] a b one tt first in
    Yields-after from (net.number ∷ one.number ∷ []) a b c after y.reads second (inl (inl refl), (y.result, tt))

-- The next pc: the choice of stage 0's hold over that of the kill.

pub next_value : (f : Fetching) (b c d : Draft) (after goes next : Wire) → Makes b c → Makes c d → Carries b f.pc.width (λ r x. x ≡ (r.read f.pc.number + 1) % 2 ^ f.pc.width) after
    → Carries c f.target.width (λ r x. x ≡ (if is_on r f.kill then r.read f.target.number else r.read after.number)) goes
    → Carries d f.pc.width (λ r x. x ≡ (if is_on r f.hold then r.read f.pc.number else r.read goes.number)) next → Carries d f.pc.width (PcTakes f) next
next_value f b c d after goes next m n ha hg hn =
    meant (λ r s e. e ∙ ap (λ x. if is_on r f.hold then r.read f.pc.number else x) ((Carries-Makes n hg).means.holds r s ∙ ap (λ x. if is_on r f.kill then r.read f.target.number else x) ((Carries-Makes n (Carries-Makes m ha)).means.holds r s))) hn

pub next_from : (f : Fetching) (a b c d : Draft) (after goes next : Wire) → Yields (f.pc.number ∷ []) a b after → Yields (f.kill.number ∷ f.target.number ∷ after.number ∷ []) b c goes
    → Yields (f.hold.number ∷ f.pc.number ∷ goes.number ∷ []) c d next → Yields (fetching_numbers f) a d next
next_from f a b c d after goes next ya yg yn =
    let from : List ℕ = fetching_numbers f in
    let first = Yields-fewer from (f.pc.number ∷ []) a b after (inl refl, tt) ya in
    let second = Yields-after from (f.kill.number ∷ f.target.number ∷ after.number ∷ []) a b c goes first.reads yg (inl (inr (inr (inl refl))), (inl (inr (inr (inr (inl refl)))), (first.result, tt))) in
    Yields-after from (f.hold.number ∷ f.pc.number ∷ goes.number ∷ []) a c d next second.reads yn (inl (inr (inl refl)), (inl (inl refl), (second.result, tt)))

-- The pc and the address as a whole.

pub drives_fetch : (f : Fetching) (a b c d : Draft) (next : Wire) → Carries b f.pc.width (PcTakes f) next → Yields (fetching_numbers f) a b next → Makes a b → c ≡ with_next b f.pc next → StayLate b c → ShowsNet f.address f.pc c d → CanFresh a
    → DrivesFetch f a d
drives_fetch f a b c d next carries yields makes is late shows fresh =
    let x : Next = record { register = f.pc; from = next } in
    let b_to_c : Extends b c = subst (Extends b) (sym is) (next_extends b x) in
    let b_to_d : Extends b d = Extends-trans b c d b_to_c shows.drives.extends in
    let nexts_c : c.nexts ≡ b.nexts ++ x ∷ [] = ap (λ (q : Draft). q.nexts) is in
    let nexts_d : d.nexts ≡ b.nexts ++ x ∷ [] = shows.drives.nexts ∙ nexts_c in
    let nets_d : d.nets ≡ b.nets = shows.nets ∙ ap (λ (q : Draft). q.nets) is in
    let instances_d : d.instances ≡ b.instances = shows.instances ∙ ap (λ (q : Draft). q.instances) is in
    let names_d : names_of d ≡ names_of b = ap (names_taken d.instances) nets_d ∙ ap (λ l. names_taken l b.nets) instances_d in
    record {
      takes = record { from = next; next = subst (λ (l : List Next). Contains l x) (sym nexts_d) (Contains-push b.nexts x); carries = Carries-Extends b_to_d carries };
      shows = shows.carries;
      extends = Extends-trans a b d makes.adds.extends b_to_d;
      nexts = (next, nexts_d ∙ ap (λ l. l ++ x ∷ []) makes.adds.nexts);
      instances = instances_d ∙ makes.instances;
      ports = ap ports_among nets_d ∙ makes.ports;
      fresh = subst (λ l. HasFresh l (wire_count d.nets)) (sym names_d) (subst (λ (l : List ModuleNet). HasFresh (names_of b) (wire_count l)) (sym nets_d) (makes.fresh fresh));
      names = λ name other new. subst (IsNew name) (sym names_d) (makes.names name other new);
      late = λ w ne h. shows.drives.late w ne (late w (yields.reads.late w h));
      came = λ by n low high. ReadyAfter-Extends by b d (fetching_numbers f) n b_to_d (yields.reads.came by n low (subst (λ (l : List ModuleNet). n < length l) nets_d high));
      address = λ by. shows.drives.came by;
    }

-- It goes on, and gives the border.

pub fetched_later : FetchGoesOn
fetched_later design a b f e h = record { pc = IsResetNamed-Extends e h.pc; wide = h.wide; address = IsNamed-Extends e h.address; takes = TakesNet-Extends e h.takes; shows = Carries-Extends e h.shows }

bit_says : (b : Bool) → (bit b == 1) ≡ b
bit_says true = refl
bit_says false = refl

pub fetch_gives_border : FetchGivesBorder
fetch_gives_border design d given nets f h hold kill = record {
  address = f.address;
  address_named = h.address;
  pc = f.pc;
  pc_from = h.takes.from;
  pc_named = record { begins = h.pc; next = h.takes.next };
  shows = Carries-width h.wide h.shows;
  target = f.target;
  takes = Carries-width h.wide (meant (λ r s e look sees. e ∙ chosen r look
      (ap (λ n. n == 1) (hold.means.holds r s look sees) ∙ bit_says (is_held design look 0)) (ap (λ n. n == 1) (kill.means.holds r s look sees) ∙ bit_says (kills design look))) h.takes.carries);
}
  where
    chosen : (r : Reading) (look : Look) → is_on r f.hold ≡ is_held design look 0 → is_on r f.kill ≡ kills design look
        → (if is_on r f.hold then r.read f.pc.number else if is_on r f.kill then r.read f.target.number else (r.read f.pc.number + 1) % 2 ^ f.pc.width) ≡ next_pc design look (r.read f.pc.number) (r.read f.target.number)
    chosen r look p q = ap (λ b. if b then r.read f.pc.number else if is_on r f.kill then r.read f.target.number else (r.read f.pc.number + 1) % 2 ^ f.pc.width) p
        ∙ ap (λ b. if is_held design look 0 then r.read f.pc.number else if b then r.read f.target.number else (r.read f.pc.number + 1) % 2 ^ f.pc.width) q
        ∙ ap (λ w. if is_held design look 0 then r.read f.pc.number else if kills design look then r.read f.target.number else (r.read f.pc.number + 1) % 2 ^ w) h.wide

-- Register files that were placed are what the border asks.
use Rattle.std.proofs.Common.{◌≡◌, ℕ, zero, suc, ◌+◌, ◌<◌, ◌==◌, false, List, [], ◌∷◌, length, refl, ap, subst, ◌∙◌, arith, inr}
use Rattle.std.specs.Prelude.{codes, slice_index, slice_get, Some}
use Rattle.std.proofs.lemmas.Bool.{eqb-false}
use Rattle.ap_desc.specs.declared.design.Design.{Design}
use Rattle.ap_desc.specs.declared.design.File.{File}
use Rattle.ap_net.specs.declared.cell.Wire.{Wire}
use Rattle.ap_net.specs.declared.net.Instance.{Instance}
use Rattle.ap_net.specs.Draft.{Draft, Extends}
use Rattle.ap_net.specs.Modules.{ModuleText, module_named}
use Rattle.ap_net.specs.Readings.{Carries}
use Rattle.ap_net.proofs.Laws.{Always-Extends, Carries-Extends, Extends-trans, stays}
use Rattle.ap_ctl.specs.Lists.{EachFrom}
use Rattle.ap_store.specs.FilePorts.{read_index, read_value}
use Rattle.ap_border.specs.Files.{HasFile}
use Rattle.ap_bank.specs.declared.files.FileWrite.{FileWrite}
use Rattle.ap_bank.specs.FileBorder.{BanksFile, FilesGiveBorder, FilesGoOn, FilesShowReads, IsShownPort, RestsAreOff, part_of}
use Rattle.ap_bank.specs.Placed.{JoinsWrite}
use Rattle.ap_bank.specs.PortStages.{IsPortStage}
use Rattle.ap_bank.proofs.BorderGiven.{IsNamed-later}
use Rattle.ap_bank.proofs.StagesFound.{few_stages}

-- They go on.

ports_later : (design : Design) (a b : Draft) (file first : ℕ) (writes : List FileWrite) → Extends a b → EachFrom (IsShownPort design a file) first writes → EachFrom (IsShownPort design b file) first writes
ports_later design a b file first [] e h = tt
ports_later design a b file first (w ∷ writes) e h = (
  record { enable = λ u. IsNamed-later e (h.0.enable u); index = λ u. IsNamed-later e (h.0.index u); value = λ u. IsNamed-later e (h.0.value u); never = λ u. Carries-Extends e (h.0.never u) },
  ports_later design a b file (first + 1) writes e h.1,
)

pub file_later : (design : Design) (a b : Draft) (modules : List ModuleText) (file : ℕ) (f : File) → Extends a b → BanksFile design a modules file f → BanksFile design b modules file f
file_later design a b modules file f e h = record {
  whole = h.whole;
  found = h.found;
  stages = h.stages;
  is_file = h.is_file;
  are = h.are;
  old = h.old;
  new = h.new;
  reads = h.reads;
  writes = h.writes;
  values = h.values;
  count = h.count;
  placed = h.placed;
  grows = Extends-trans h.new a b h.grows e;
  shown = ports_later design a b file 0 h.writes e h.shown;
}

pub files_later : FilesGoOn
files_later design a b modules e h file f at = file_later design a b modules file f e (h file f at)

-- One write port by its number.

index_from : (P : ℕ → ℕ → Type 0) (first : ℕ) (xs : List ℕ) (i : ℕ) → EachFrom P first xs → i < length xs → P (first + i) (slice_index xs i)
index_from P first [] i h lt = absurd (omega arith)
index_from P first (x ∷ xs) zero h lt = let here : first ≡ first + 0 = omega arith in subst (λ n. P n x) here h.0
index_from P first (x ∷ xs) (suc i) h lt = let next : first + 1 + i ≡ first + suc i = omega arith in subst (λ n. P n (slice_index xs i)) next (index_from P (first + 1) xs i h.1 (omega arith))

record OnePort (design : Design) (d : Draft) (nets : List Wire) (file number : ℕ) (f : File) : Type 0 where
  write : FileWrite
  joined : JoinsWrite f nets number write
  shown : IsShownPort design d file number write

find_port : (design : Design) (d : Draft) (nets : List Wire) (file first : ℕ) (f : File) (writes : List FileWrite) → EachFrom (JoinsWrite f nets) first writes → EachFrom (IsShownPort design d file) first writes → (i : ℕ) → i < length writes → OnePort design d nets file (first + i) f
find_port design d nets file first f [] j s i lt = absurd (omega arith)
find_port design d nets file first f (w ∷ writes) j s zero lt = let here : first ≡ first + 0 = omega arith in subst (λ n. OnePort design d nets file n f) here (record { write = w; joined = j.0; shown = s.0 })
find_port design d nets file first f (w ∷ writes) j s (suc i) lt =
    let next : first + 1 + i ≡ first + suc i = omega arith in subst (λ n. OnePort design d nets file n f) next (find_port design d nets file (first + 1) f writes j.1 s.1 i (omega arith))

head_differs : (a b : ℕ) (xs ys : List ℕ) → (a == b) ≡ false → a ∷ xs ≡ b ∷ ys → ⊥
head_differs a b xs ys d e = let same : a ≡ b = cc in eqb-false a b d same

module _ (design : Design) (d : Draft) (modules : List ModuleText) (file : ℕ) (f : File) (h : BanksFile design d modules file f) (top : d.name ≡ codes "top") where
  abbrev of : Instance
  of = h.placed.of

  one : (number : ℕ) → number < f.writes → OnePort design d of.nets file number f
  one number lt =
      let z : 0 + number ≡ number = omega arith in
      let c = h.count in
      subst (λ n. OnePort design d of.nets file n f) z (find_port design d of.nets file 0 f h.writes h.placed.joined.written h.shown number (omega arith))

  stage : (number : ℕ) → number < f.writes → IsPortStage design file number (slice_index h.stages number)
  stage number lt =
      let z : 0 + number ≡ number = omega arith in
      let c = h.are.count in
      subst (λ n. IsPortStage design file n (slice_index h.stages number)) z (index_from (IsPortStage design file) 0 h.stages number h.are.each (omega arith))

  pub has_file : HasFile design d modules file f
  has_file = record {
    k = length h.old.instances;
    of = of;
    placed = stays h.new.instances d.instances h.grows.instances (length h.old.instances) of h.placed.placed;
    named = h.placed.named;
    other = λ e. head_differs 102 116 _ _ refl (e ∙ top);
    whole = h.whole;
    found = ap (module_named modules) h.placed.whole ∙ h.found;
    stages = h.stages;
    is_file = h.is_file;
    count = h.are.count;
    stage_of = λ number s lt low. (stage number lt).used s low;
    within = λ number lt. (stage number lt).within;
    written = λ number lt used. let p = one number lt in record {
      enable = record { net = p.write.enable; joined = p.joined.enable; named = p.shown.enable used };
      index = record { net = p.write.index; joined = p.joined.index; named = p.shown.index used };
      value = record { net = p.write.value; joined = p.joined.value; named = p.shown.value used };
    };
    unwritten = λ number lt unused. let p = one number lt in record { enable = p.write.enable; joined = p.joined.enable; never = p.shown.never unused };
  }

pub files_give_border : FilesGiveBorder
unfolding has_file
files_give_border design d modules clean top banks = record { files = record { stages = few_stages design clean; each = λ file f at. has_file design d modules file f (banks file f at) top }; part = λ file f at. refl }

-- What the read ports show.

map_from : (P Q : ℕ → Wire → Type 0) → ((n : ℕ) (w : Wire) → P n w → Q n w) → (first : ℕ) (ws : List Wire) → EachFrom P first ws → EachFrom Q first ws
map_from P Q f first [] h = tt
map_from P Q f first (w ∷ ws) h = (f first w h.0, map_from P Q f (first + 1) ws h.1)

pub files_show : FilesShowReads
files_show design d modules file f h r settled over =
    let part = (Always-Extends h.grows h.placed.part).holds r settled h.whole (ap (λ l. module_named l h.whole.name) over ∙ h.found) in
    let nets : List Wire = h.placed.of.nets in
    record {
      asks = map_from (λ n w. slice_get nets (read_index n) ≡ Some w) (λ n w. r.parts (part_of h) (read_index n) ≡ r.read w.number) (λ n w at. part.joined (read_index n) w at) 0 h.reads h.placed.joined.indices;
      shows = map_from (λ n w. slice_get nets (read_value n) ≡ Some w) (λ n w. r.parts (part_of h) (read_value n) ≡ r.read w.number) (λ n w at. part.joined (read_value n) w at) 0 h.values h.placed.joined.shown;
    }

pub rests_off : RestsAreOff
rests_off d name w named bit rest = inr (record { net = w; named = named; never = subst (λ n. Carries d n (λ r x. x ≡ 0) w) bit rest.never })

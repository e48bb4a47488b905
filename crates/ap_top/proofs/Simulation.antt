-- Running a netlist: from what reading the netlist, the image and the trace says to what is left of the files.
use Rattle.std.proofs.Common.{◌≡◌, ℕ, ◌<◌, List, [], ◌∷◌, length, Option, Some, None, Result, Err, refl, sym, subst, ◌∙◌, inl, inr, ⊎_elim}
use Rattle.std.specs.Prelude.{◌≢◌, ◌⊎◌, IfSome, MatchBool}
use Rattle.std.specs.FinMap.{get}
use Rattle.std.proofs.lemmas.Bool.{cases_lt, lt-ltb}
use Rattle.ap_bits.specs.declared.card.Card.{Card}
use Rattle.ap_desk.specs.Files.{Becomes, BecomesFrontOrStays, Files, Goes, ReadsUpTo, content}
use Rattle.ap_desk.specs.declared.counts.Counts.{Counts}
use Rattle.ap_flat.specs.Flats.{FlatParts}
use Rattle.ap_image.specs.FitsShape.{ImageFitsShape, TraceFitsShape}
use Rattle.ap_image.specs.ImageTexts.{image_fault, image_of}
use Rattle.ap_image.specs.Shapes.{Shape}
use Rattle.ap_image.specs.TextFaults.{HasTextFault, HasTextFaultAmong, IsFaultlessText, IsLeastOf, IsTextFault, Judge, text_limit}
use Rattle.ap_image.specs.TraceTexts.{trace_fault, trace_of}
use Rattle.ap_image.specs.declared.fault.TextFault.{TextFault}
use Rattle.ap_image.specs.declared.fault.TextFault.TheVariants as told
use Rattle.ap_image.specs.declared.fault.TextKind.{TextKind}
use Rattle.ap_image.specs.declared.fault.TextKind.TheVariants as texts
use Rattle.ap_image.specs.declared.image.Image.{Image}
use Rattle.ap_image.specs.declared.trace.Trace.{Trace}
use Rattle.ap_net.specs.Answering.{AlwaysRuns}
use Rattle.ap_net.specs.Flat.{Flat, opened}
use Rattle.ap_net.specs.Outside.{Outside, shape_of}
use Rattle.ap_sim.specs.Rows.{AreLinesOf, AreRowsOf, lines_from}
use Rattle.ap_sim.specs.Runnable.{HasRunFault, IsFlatOf, IsRunFault}
use Rattle.ap_sim.specs.declared.fault.RunFault.{RunFault}
use Rattle.ap_sim.specs.declared.fault.RunFault.TheVariants as running
use Rattle.ap_sim.specs.declared.fault.RunKind.{RunKind}
use Rattle.ap_sim.specs.declared.fault.RunKind.TheVariants as runs
use Rattle.ap_text.specs.Lines.{lines_of}
use Rattle.ap_vr.proofs.TextRead.{too_long}
use Rattle.ap_vr.specs.Places.{IsBadFrom, start}
use Rattle.ap_vr.specs.Reading as netlists
use Rattle.ap_vr.specs.TextLines.{text_lines}
use Rattle.ap_vr.specs.declared.fault.NetKind.TheVariants as nets
use Rattle.ap_vw.specs.NetLines.{text_of}
use Rattle.ap_top.specs.declared.command.Input.TheVariants as input
use Rattle.ap_top.specs.declared.refusal.Refusal.{Refusal}
use Rattle.ap_top.specs.declared.refusal.Refusal.TheVariants as refused_as
use Rattle.ap_top.specs.declared.refusal.Stop.{Stop}
use Rattle.ap_top.specs.declared.refusal.Stop.TheVariants.{Refused, Broken}
use Rattle.ap_top.specs.declared.refusal.Trouble.TheVariants.{Desk, Memory}
use Rattle.ap_top.specs.Assembly.{FailsAt, StopsReading}
use Rattle.ap_top.specs.Inputs.{AreGood, FailsOn, IsGoodInput, IsRefused, IsThere, LacksOne, RefusesOne, Source}
use Rattle.ap_top.specs.Outputs.{FromGood, IsBegunOn, Target, Writes}
use Rattle.ap_top.specs.Refusals.{stop_of_image, stop_of_netlist, stop_of_trace}
use Rattle.ap_top.specs.Simulation.{IsFlatAt, IsImageAt, IsImageIn, IsImageRefused, IsNetlistRefused, IsTraceAt, IsTraceIn, IsTraceRefused, StopsIn, sim_sources, sim_targets}
use Rattle.ap_top.specs.Troubles.{StopsOn, desk_stop}
use Rattle.ap_top.proofs.Assembly.{due_told, due_untold}
use Rattle.ap_top.proofs.Judging.{unchanged}

-- Texts that are too long.

-- a netlist's text that is too long is no netlist's
long_never : (text : List ℕ) (flat : FlatParts) → netlists.text_limit < length text → IsFlatOf text flat → ⊥
long_never text flat long h = h.1.text_of.faultless 0 nets.BadForm (inl (too_long text long))

-- and has the fault of any other that is
long_form : (one other : List ℕ) (line : ℕ) → netlists.text_limit < length one → netlists.text_limit < length other → netlists.HasBadForm one line → netlists.HasBadForm other line
long_form one other line long long' h =
    let here : line ≡ 0 = subst (λ b. MatchBool b (line ≡ 0) (IsBadFrom start (text_lines one) line)) (lt-ltb netlists.text_limit (length one) long) h in
    subst (λ b. MatchBool b (line ≡ 0) (IsBadFrom start (text_lines other) line)) (sym (lt-ltb netlists.text_limit (length other) long')) here

long_run_fault : (one other : List ℕ) (kind : RunKind) (line : ℕ) → netlists.text_limit < length one → netlists.text_limit < length other → HasRunFault one kind line → HasRunFault other kind line
long_run_fault one other (runs.Text kind) line long long' (inl h) = inl (h.0, long_form one other line long long' h.1)
long_run_fault one other (runs.Text kind) line long long' (inr h) = absurd (h.0 0 (too_long one long).1)
long_run_fault one other runs.Loop line long long' h = absurd (h.1.1.faultless 0 nets.BadForm (inl (too_long one long)))
long_run_fault one other runs.BadPorts line long long' h = absurd (h.1.1.faultless 0 nets.BadForm (inl (too_long one long)))

-- the bytes that were read are the file, or both are too long
bytes_same : (files : Files) (name bytes : List ℕ) → ReadsUpTo files name 67108864 bytes → (bytes ≡ content files name) ⊎ ((text_limit < length bytes) × (text_limit < length (content files name)))
bytes_same files name bytes h = ⊎_elim (λ long. inr (h.longer.1 long, long)) (λ short. inl (h.whole short)) (cases_lt 67108864 (length (content files name)))

module _ (judge : Judge) where
  -- the one fault of an image or a trace that is too long
  long_to : (text : List ℕ) (fault : TextKind) (number : ℕ) → text_limit < length text → HasTextFault judge text fault number → (fault ≡ texts.BadForm) × (number ≡ 0)
  long_to text fault number long h = subst (λ b. MatchBool b ((fault ≡ texts.BadForm) × (number ≡ 0)) (HasTextFaultAmong judge [] (lines_of text) fault number)) (lt-ltb text_limit (length text) long) h

  long_from : (text : List ℕ) (fault : TextKind) (number : ℕ) → text_limit < length text → (fault ≡ texts.BadForm) × (number ≡ 0) → HasTextFault judge text fault number
  long_from text fault number long h = subst (λ b. MatchBool b ((fault ≡ texts.BadForm) × (number ≡ 0)) (HasTextFaultAmong judge [] (lines_of text) fault number)) (sym (lt-ltb text_limit (length text) long)) h

  same_long : (one other : List ℕ) → text_limit < length one → text_limit < length other → (kind : TextKind) (number : ℕ) → HasTextFault judge one kind number → HasTextFault judge other kind number
  same_long one other long long' kind number h = long_from other kind number long' (long_to one kind number long h)

  long_least : (one other : List ℕ) (fault : TextKind) (line : ℕ) → text_limit < length one → text_limit < length other → IsLeastOf (HasTextFault judge one) fault line → IsLeastOf (HasTextFault judge other) fault line
  long_least one other fault line long long' h = record {
    holds = same_long one other long long' fault line h.holds;
    first = λ kind number g. h.first kind number (same_long other one long' long kind number g);
    least = λ kind g. h.least kind (same_long other one long' long kind line g);
  }

  file_least : (files : Files) (name bytes : List ℕ) (fault : TextKind) (line : ℕ) → ReadsUpTo files name 67108864 bytes → IsLeastOf (HasTextFault judge bytes) fault line → IsLeastOf (HasTextFault judge (content files name)) fault line
  file_least files name bytes fault line reads h =
      ⊎_elim (λ e. subst (λ text. IsLeastOf (HasTextFault judge text) fault line) e h) (λ long. long_least bytes (content files name) fault line long.0 long.1 h) (bytes_same files name bytes reads)

  file_whole : (files : Files) (name bytes : List ℕ) → ReadsUpTo files name 67108864 bytes → IsFaultlessText judge bytes → bytes ≡ content files name
  file_whole files name bytes reads none = ⊎_elim (λ e. e) (λ long. absurd (none texts.BadForm 0 (long_from bytes texts.BadForm 0 long.0 (refl, refl)))) (bytes_same files name bytes reads)

-- Reading the netlist.

pub flat_at : (name bytes : List ℕ) (told : Option Files) (flat : FlatParts) → IfSome told (λ files. ReadsUpTo files name 67108864 bytes) → IsFlatOf bytes flat → IsFlatAt name told flat
flat_at name bytes None flat reads h = tt
flat_at name bytes (Some files) flat reads h =
    (reads.there, ⊎_elim (λ e. subst (λ text. IsFlatOf text flat) e h) (λ long. absurd (long_never bytes flat long.0 h)) (bytes_same files name bytes reads))

pub netlist_stops : (name bytes : List ℕ) (told : Option Files) (fault : RunFault) → IfSome told (λ files. ReadsUpTo files name 67108864 bytes) → IsRunFault bytes fault → StopsReading IsNetlistRefused name told (stop_of_netlist fault)
netlist_stops name bytes None (running.At line kind) reads h = ((λ e. cc), tt)
netlist_stops name bytes (Some files) (running.At line kind) reads h =
    ((λ e. cc), (reads.there, ⊎_elim (λ e. subst (λ text. HasRunFault text kind line) e h) (λ long. long_run_fault bytes (content files name) kind line long.0 long.1 h) (bytes_same files name bytes reads)))
netlist_stops name bytes told running.NoMemory reads h = tt

-- Judging the image and the trace.

pub image_in : (shape : Shape) (text : List ℕ) (fault : TextFault) → IsTextFault (image_fault shape) text fault → StopsIn (IsImageRefused shape) text (stop_of_image fault)
image_in shape text (told.At line kind) h = ((λ e. cc), h)
image_in shape text told.NoMemory h = refl

pub trace_in : (shape : Shape) (text : List ℕ) (fault : TextFault) → IsTextFault (trace_fault shape) text fault → StopsIn (IsTraceRefused shape) text (stop_of_trace fault)
trace_in shape text (told.At line kind) h = ((λ e. cc), h)
trace_in shape text told.NoMemory h = refl

-- Reading them.

pub image_at : (shape : Shape) (name bytes : List ℕ) (told : Option Files) (image : Image) → IfSome told (λ files. ReadsUpTo files name 67108864 bytes) → IsImageIn shape bytes image → IsImageAt shape name told image
image_at shape name bytes None image reads h = tt
image_at shape name bytes (Some files) image reads h =
    (reads.there, subst (λ text. IsImageIn shape text image) (file_whole (image_fault shape) files name bytes reads h.0) h)

pub trace_at : (shape : Shape) (name bytes : List ℕ) (told : Option Files) (trace : Trace) → IfSome told (λ files. ReadsUpTo files name 67108864 bytes) → IsTraceIn shape bytes trace → IsTraceAt shape name told trace
trace_at shape name bytes None trace reads h = tt
trace_at shape name bytes (Some files) trace reads h =
    (reads.there, subst (λ text. IsTraceIn shape text trace) (file_whole (trace_fault shape) files name bytes reads h.0) h)

image_refused : (shape : Shape) (files : Files) (name bytes : List ℕ) (refusal : Refusal) → ReadsUpTo files name 67108864 bytes → IsImageRefused shape bytes refusal → IsImageRefused shape (content files name) refusal
image_refused shape files name bytes (refused_as.Image line kind) reads h = file_least (image_fault shape) files name bytes kind line reads h
image_refused shape files name bytes refusal reads h = absurd h

trace_refused : (shape : Shape) (files : Files) (name bytes : List ℕ) (refusal : Refusal) → ReadsUpTo files name 67108864 bytes → IsTraceRefused shape bytes refusal → IsTraceRefused shape (content files name) refusal
trace_refused shape files name bytes (refused_as.Trace line kind) reads h = file_least (trace_fault shape) files name bytes kind line reads h
trace_refused shape files name bytes refusal reads h = absurd h

pub image_stops : (shape : Shape) (name bytes : List ℕ) (told : Option Files) (stop : Stop) → IfSome told (λ files. ReadsUpTo files name 67108864 bytes) → StopsIn (IsImageRefused shape) bytes stop → StopsReading (IsImageRefused shape) name told stop
image_stops shape name bytes told (Broken trouble) reads h = tt
image_stops shape name bytes None (Refused refusal) reads h = (h.0, tt)
image_stops shape name bytes (Some files) (Refused refusal) reads h = (h.0, (reads.there, image_refused shape files name bytes refusal reads h.1))

pub trace_stops : (shape : Shape) (name bytes : List ℕ) (told : Option Files) (stop : Stop) → IfSome told (λ files. ReadsUpTo files name 67108864 bytes) → StopsIn (IsTraceRefused shape) bytes stop → StopsReading (IsTraceRefused shape) name told stop
trace_stops shape name bytes told (Broken trouble) reads h = tt
trace_stops shape name bytes None (Refused refusal) reads h = (h.0, tt)
trace_stops shape name bytes (Some files) (Refused refusal) reads h = (h.0, (reads.there, trace_refused shape files name bytes refusal reads h.1))

-- judging isn't stopped by the desk
pub stops_never : {T : Type 0} (refused : List ℕ → Refusal → Type 0) (text : List ℕ) (stop : Stop) → StopsIn refused text stop → ◌≡◌ {A = Result T Stop} (Err stop) (Err desk_stop) → ⊥
stops_never refused text (Refused refusal) h e = cc
stops_never refused text (Broken Desk) h e = cc
stops_never refused text (Broken Memory) h e = cc

pub running_never : {T : Type 0} (fault : RunFault) → ◌≡◌ {A = Result T Stop} (Err (stop_of_netlist fault)) (Err desk_stop) → ⊥
running_never (running.At line kind) e = cc
running_never running.NoMemory e = cc

-- a run has lines
pub lines_exist : (o : Outside) (f : Flat) (image : Image) (trace : Trace) (cycles : ℕ) → AlwaysRuns o f → ImageFitsShape image (shape_of o) → TraceFitsShape trace (shape_of o) → (lines : List (List ℕ)) × AreLinesOf o f image trace cycles lines
lines_exist o f image trace cycles always fits trace_fits =
    let run = always image trace cycles fits trace_fits in
    (lines_from o f run.1 0 cycles, record { states = run.0; valuations = run.1; runs = run.2; lines_are = refl })

module _ (cards : List Card) (v i t : List ℕ) (n : ℕ) (o : List ℕ) where
  abbrev sources : List Source
  sources = sim_sources v i t

  abbrev targets : List Target
  targets = sim_targets n o

  -- The three inputs.

  netlist_good : (files : Files) (flat : FlatParts) → IsFlatAt v (Some files) flat → IsGoodInput cards files [] (input.Netlist, v)
  netlist_good files flat h = record { there = h.0; faultless = (h.1.0, flat.outside, h.1.1) }

  image_good : (files : Files) (flat : FlatParts) (image : Image) → IsFlatAt v (Some files) flat → IsImageAt (shape_of flat.outside) i (Some files) image → IsGoodInput cards files (content files v ∷ []) (input.Image, i)
  image_good files flat image h g = record { there = g.0; faultless = record { net = h.1.0; outside = flat.outside; runs = h.1.1; faultless = g.1.0 } }

  trace_good : (files : Files) (flat : FlatParts) (trace : Trace) → IsFlatAt v (Some files) flat → IsTraceAt (shape_of flat.outside) t (Some files) trace → IsGoodInput cards files (content files v ∷ content files i ∷ []) (input.Trace, t)
  trace_good files flat trace h g = record { there = g.0; faultless = record { net = h.1.0; outside = flat.outside; runs = h.1.1; faultless = g.1.0 } }

  -- reading one of them stopped the work
  stops : (refused : List ℕ → Refusal → Type 0) (name : List ℕ) (told told' : Option Files) (stop : Stop) → told' ≡ told
      → ((files : Files) (refusal : Refusal) → told ≡ Some files → IsThere files name → refused (content files name) refusal → RefusesOne cards files [] sources refusal)
      → StopsReading refused name told stop → StopsOn cards sources targets told told' stop
  stops refused name told told' (Broken trouble) e one h = unchanged cards sources targets told told' e
  stops refused name None told' (Refused refusal) e one h = (e, due_untold cards sources refusal h.0)
  stops refused name (Some files) told' (Refused refusal) e one h = (e, due_told cards sources files refusal h.0 (one files refusal refl h.1.0 h.1.1))

  netlist_due : (text : List ℕ) (refusal : Refusal) → IsNetlistRefused text refusal → IsRefused cards [] input.Netlist text refusal
  netlist_due text (refused_as.Netlist line kind) h = h
  netlist_due text refusal h = absurd h

  pub netlist_stop : (told told' : Option Files) (stop : Stop) → told' ≡ told → StopsReading IsNetlistRefused v told stop → StopsOn cards sources targets told told' stop
  netlist_stop told told' stop e h = stops IsNetlistRefused v told told' stop e (λ files refusal at there r. inl (there, netlist_due (content files v) refusal r)) h

  image_due : (files : Files) (flat : FlatParts) (refusal : Refusal) → IsFlatAt v (Some files) flat → IsImageRefused (shape_of flat.outside) (content files i) refusal → IsRefused cards (content files v ∷ []) input.Image (content files i) refusal
  image_due files flat (refused_as.Image line kind) h r = record { net = h.1.0; outside = flat.outside; runs = h.1.1; least = r }
  image_due files flat refusal h r = absurd r

  pub image_stop : (told told' : Option Files) (flat : FlatParts) (stop : Stop) → told' ≡ told → IsFlatAt v told flat → StopsReading (IsImageRefused (shape_of flat.outside)) i told stop → StopsOn cards sources targets told told' stop
  image_stop told told' flat stop e is h = stops (IsImageRefused (shape_of flat.outside)) i told told' stop e (λ files refusal at there r.
      let f : IsFlatAt v (Some files) flat = subst (λ (x : Option Files). IsFlatAt v x flat) at is in
      inr (netlist_good files flat f, inl (there, image_due files flat refusal f r))) h

  trace_due : (files : Files) (flat : FlatParts) (refusal : Refusal) → IsFlatAt v (Some files) flat → IsTraceRefused (shape_of flat.outside) (content files t) refusal → IsRefused cards (content files v ∷ content files i ∷ []) input.Trace (content files t) refusal
  trace_due files flat (refused_as.Trace line kind) h r = record { net = h.1.0; outside = flat.outside; runs = h.1.1; least = r }
  trace_due files flat refusal h r = absurd r

  pub trace_stop : (told told' : Option Files) (flat : FlatParts) (image : Image) (stop : Stop) → told' ≡ told → IsFlatAt v told flat → IsImageAt (shape_of flat.outside) i told image → StopsReading (IsTraceRefused (shape_of flat.outside)) t told stop → StopsOn cards sources targets told told' stop
  trace_stop told told' flat image stop e is at_image h = stops (IsTraceRefused (shape_of flat.outside)) t told told' stop e (λ files refusal at there r.
      let f : IsFlatAt v (Some files) flat = subst (λ (x : Option Files). IsFlatAt v x flat) at is in
      let g : IsImageAt (shape_of flat.outside) i (Some files) image = subst (λ (x : Option Files). IsImageAt (shape_of flat.outside) i x image) at at_image in
      inr (netlist_good files flat f, inr (image_good files flat image f g, inl (there, trace_due files flat refusal f r)))) h

  -- The desk's counts.

  lacks : (name : List ℕ) (told : Option Files) → ((files : Files) → told ≡ Some files → get files name ≡ None → LacksOne cards files [] sources) → IfSome told (λ files. get files name ≡ None) → IfSome told (λ files. LacksOne cards files [] sources)
  lacks name None more none = tt
  lacks name (Some files) more none = more files refl none

  fails : (name : List ℕ) (told : Option Files) (before after : Counts) → ((files : Files) → told ≡ Some files → get files name ≡ None → LacksOne cards files [] sources) → FailsAt name told before after → FailsOn cards sources told before after
  fails name told before after more h = ⊎_elim (λ rose. inl rose) (λ missed. inr (missed.0, lacks name told more missed.1)) h

  pub netlist_fails : (told : Option Files) (before after : Counts) → FailsAt v told before after → FailsOn cards sources told before after
  netlist_fails told before after h = fails v told before after (λ files at none. inl none) h

  pub image_fails : (told mid : Option Files) (flat : FlatParts) (before after : Counts) → mid ≡ told → IsFlatAt v told flat → FailsAt i mid before after → FailsOn cards sources told before after
  image_fails told mid flat before after e is h = fails i told before after (λ files at none.
      inr (netlist_good files flat (subst (λ (x : Option Files). IsFlatAt v x flat) at is), inl none)) (subst (λ (x : Option Files). FailsAt i x before after) e h)

  pub trace_fails : (told mid : Option Files) (flat : FlatParts) (image : Image) (before after : Counts) → mid ≡ told → IsFlatAt v told flat → IsImageAt (shape_of flat.outside) i told image → FailsAt t mid before after → FailsOn cards sources told before after
  trace_fails told mid flat image before after e is at_image h = fails t told before after (λ files at none.
      let f : IsFlatAt v (Some files) flat = subst (λ (x : Option Files). IsFlatAt v x flat) at is in
      let g : IsImageAt (shape_of flat.outside) i (Some files) image = subst (λ (x : Option Files). IsImageAt (shape_of flat.outside) i x image) at at_image in
      inr (netlist_good files flat f, inr (image_good files flat image f g, inl none))) (subst (λ (x : Option Files). FailsAt t x before after) e h)

  -- The rows.

  -- all three were read, where the desk tells, and the lines are those of the run
  pub record IsRunAt (told : Option Files) (flat : FlatParts) (image : Image) (trace : Trace) (lines : List (List ℕ)) : Type 0 where
    pub flat_is : IsFlatAt v told flat
    pub image_is : IsImageAt (shape_of flat.outside) i told image
    pub trace_is : IsTraceAt (shape_of flat.outside) t told trace
    pub lines_are : AreLinesOf flat.outside flat.net image trace n lines

  module _ (files : Files) (flat : FlatParts) (image : Image) (trace : Trace) (lines : List (List ℕ)) (h : IsRunAt (Some files) flat image trace lines) where
    good : AreGood cards files [] sources
    good = (netlist_good files flat h.flat_is, (image_good files flat image h.flat_is h.image_is, (trace_good files flat trace h.flat_is h.trace_is, tt)))

    are_rows : AreRowsOf (content files v) (content files i) (content files t) n (text_of lines)
    are_rows = record {
      net = h.flat_is.1.0;
      outside = flat.outside;
      can_run = h.flat_is.1.1;
      lines = lines;
      shown = subst (λ (f : Flat). AreLinesOf flat.outside f (image_of (shape_of flat.outside) (lines_of (content files i))) (trace_of (lines_of (content files t))) n lines) h.flat_is.1.2
          (subst (λ (x : Image). AreLinesOf flat.outside flat.net x (trace_of (lines_of (content files t))) n lines) h.image_is.1.1
          (subst (λ (x : Trace). AreLinesOf flat.outside flat.net image x n lines) h.trace_is.1.1 h.lines_are));
      text_is = refl;
    }

    rows_written : (new : Files) → Becomes o (text_of lines) files new → FromGood cards Writes sources targets files new
    rows_written new e = (good, (text_of lines, are_rows, e))

    rows_begun : (new : Files) → BecomesFrontOrStays o (text_of lines) files new → IsBegunOn cards sources targets files new
    rows_begun new (inl same) = inl same
    rows_begun new (inr front) = inr (good, inr (text_of lines, front.0, are_rows, front.1))

  pub all_written : (told mid told' : Option Files) (flat : FlatParts) (image : Image) (trace : Trace) (lines : List (List ℕ)) → mid ≡ told → IsRunAt told flat image trace lines → Goes (Becomes o (text_of lines)) mid told' → Goes (FromGood cards Writes sources targets) told told'
  all_written told mid told' flat image trace lines e h g = by told told' h (subst (λ (x : Option Files). Goes (Becomes o (text_of lines)) x told') e g)
    where
      by : (told told' : Option Files) → IsRunAt told flat image trace lines → Goes (Becomes o (text_of lines)) told told' → Goes (FromGood cards Writes sources targets) told told'
      by None None h g = tt
      by None (Some new) h g = absurd g
      by (Some files) None h g = absurd g
      by (Some files) (Some new) h g = rows_written files flat image trace lines h new g

  pub writing_stop : (told mid told' : Option Files) (flat : FlatParts) (image : Image) (trace : Trace) (lines : List (List ℕ)) → mid ≡ told → IsRunAt told flat image trace lines → Goes (BecomesFrontOrStays o (text_of lines)) mid told' → Goes (IsBegunOn cards sources targets) told told'
  writing_stop told mid told' flat image trace lines e h g = by told told' h (subst (λ (x : Option Files). Goes (BecomesFrontOrStays o (text_of lines)) x told') e g)
    where
      by : (told told' : Option Files) → IsRunAt told flat image trace lines → Goes (BecomesFrontOrStays o (text_of lines)) told told' → Goes (IsBegunOn cards sources targets) told told'
      by None None h g = tt
      by None (Some new) h g = absurd g
      by (Some files) None h g = absurd g
      by (Some files) (Some new) h g = rows_begun files flat image trace lines h new g

  -- memory ran out
  pub memory_stop : (told told' : Option Files) → told' ≡ told → Goes (IsBegunOn cards sources targets) told told'
  memory_stop told told' e = unchanged cards sources targets told told' e

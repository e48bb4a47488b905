-- The commands, as rows of the table: from their own inputs and outputs to those of their words.
use Rattle.std.proofs.Common.{◌≡◌, ◌≢◌, ℕ, List, [], ◌∷◌, length, get_or, map, Some, None, Option, Result, Ok, Err, refl, sym, ap, subst, ◌∙◌, arith}
use Rattle.std.specs.Prelude.{OnOk, IfErr, codes, slice_index, unwrap_or}
use Rattle.ap_bits.specs.declared.card.Card.{Card}
use Rattle.ap_desk.specs.Files.{Files, Goes, IsFileName}
use Rattle.ap_top.specs.declared.command.Command.{Command}
use Rattle.ap_top.specs.declared.command.Command.TheVariants.{Asm, Gen, Sim}
use Rattle.ap_top.specs.declared.refusal.Refusal.TheVariants.{Usage, Description, Program, Netlist, Image, Trace}
use Rattle.ap_top.specs.declared.refusal.Stop.{Stop}
use Rattle.ap_top.specs.declared.refusal.Stop.TheVariants.{Refused, Broken}
use Rattle.ap_top.specs.Assembly.{asm_sources, asm_targets}
use Rattle.ap_top.specs.Commands.{IsCall, count_in, name_of, slots_of}
use Rattle.ap_top.specs.Inputs.{Source, inputs_of, IsDueOf}
use Rattle.ap_top.specs.Outputs.{Target, outputs_of, FromGood, Writes, IsBegunOn}
use Rattle.ap_top.specs.Endings.{IsDone}
use Rattle.ap_top.specs.Generate.{gen_sources, gen_targets}
use Rattle.ap_top.specs.Simulation.{sim_sources, sim_targets}
use Rattle.ap_top.specs.Troubles.{StopsOn, StopsAs}

-- words begin with one command
abbrev first_letter : Command → ℕ
first_letter command = slice_index (name_of command) 0

same_letter : (one other : Command) (words : List (List ℕ)) → IsCall one words → IsCall other words → first_letter one ≡ first_letter other
same_letter one other [] p q = absurd p
same_letter one other (name ∷ words) p q = ap (λ (word : List ℕ). slice_index word 0) (sym p.0 ∙ q.0)

pub one_command : (one other : Command) (words : List (List ℕ)) → IsCall one words → IsCall other words → one ≡ other
one_command one other words p q = by one other (same_letter one other words p q)
  where
    by : (one other : Command) → first_letter one ≡ first_letter other → one ≡ other
    by Gen Gen e = refl
    by Gen Asm e = absurd (let letters : ◌≡◌ {A = ℕ} 103 97 = e in let no : ⊥ = omega (arith, letters) in no)
    by Gen Sim e = absurd (let letters : ◌≡◌ {A = ℕ} 103 115 = e in let no : ⊥ = omega (arith, letters) in no)
    by Asm Gen e = absurd (let letters : ◌≡◌ {A = ℕ} 97 103 = e in let no : ⊥ = omega (arith, letters) in no)
    by Asm Asm e = refl
    by Asm Sim e = absurd (let letters : ◌≡◌ {A = ℕ} 97 115 = e in let no : ⊥ = omega (arith, letters) in no)
    by Sim Gen e = absurd (let letters : ◌≡◌ {A = ℕ} 115 103 = e in let no : ⊥ = omega (arith, letters) in no)
    by Sim Asm e = absurd (let letters : ◌≡◌ {A = ℕ} 115 97 = e in let no : ⊥ = omega (arith, letters) in no)
    by Sim Sim e = refl

-- with another number of words there is no call
no_call : {A : Type 0} (command : Command) (name : List ℕ) (words : List (List ℕ)) → length words ≢ length (slots_of command) → IsCall command (name ∷ words) → A
no_call command name words differs call = absurd (differs call.1.count)

pub gen_inputs : {X : Type 0} (f : X → List ℕ) (words : List X) (word : X) (name : List ℕ) → IsCall Gen (map f words) → word ≡ get_or words 1 word → name ≡ f word → inputs_of Gen (map f words) ≡ gen_sources name
gen_inputs f [] word name call there e = absurd call
gen_inputs f (a ∷ []) word name call there e = no_call Gen (f a) [] (λ (e : 0 ≡ 2). omega arith) call
gen_inputs f (a ∷ b ∷ []) word name call there e = no_call Gen (f a) (f b ∷ []) (λ (e : 1 ≡ 2). omega arith) call
gen_inputs f (a ∷ b ∷ c ∷ words) word name call there e = ap gen_sources (sym (e ∙ ap f there))

pub gen_outputs : {X : Type 0} (f : X → List ℕ) (words : List X) (word : X) (name : List ℕ) → IsCall Gen (map f words) → word ≡ get_or words 2 word → name ≡ f word → outputs_of Gen (map f words) ≡ gen_targets name
gen_outputs f [] word name call there e = absurd call
gen_outputs f (a ∷ []) word name call there e = no_call Gen (f a) [] (λ (e : 0 ≡ 2). omega arith) call
gen_outputs f (a ∷ b ∷ []) word name call there e = no_call Gen (f a) (f b ∷ []) (λ (e : 1 ≡ 2). omega arith) call
gen_outputs f (a ∷ b ∷ c ∷ words) word name call there e = ap gen_targets (sym (e ∙ ap f there))

pub asm_inputs : {X : Type 0} (f : X → List ℕ) (words : List X) (one two : X) (d p : List ℕ) → IsCall Asm (map f words) → one ≡ get_or words 1 one → d ≡ f one → two ≡ get_or words 2 two → p ≡ f two → inputs_of Asm (map f words) ≡ asm_sources d p
asm_inputs f [] one two d p call at e there g = absurd call
asm_inputs f (a ∷ []) one two d p call at e there g = no_call Asm (f a) [] (λ (h : 0 ≡ 4). omega arith) call
asm_inputs f (a ∷ b ∷ []) one two d p call at e there g = no_call Asm (f a) (f b ∷ []) (λ (h : 1 ≡ 4). omega arith) call
asm_inputs f (a ∷ b ∷ c ∷ []) one two d p call at e there g = no_call Asm (f a) (f b ∷ f c ∷ []) (λ (h : 2 ≡ 4). omega arith) call
asm_inputs f (a ∷ b ∷ c ∷ x ∷ []) one two d p call at e there g = no_call Asm (f a) (f b ∷ f c ∷ f x ∷ []) (λ (h : 3 ≡ 4). omega arith) call
asm_inputs f (a ∷ b ∷ c ∷ x ∷ y ∷ words) one two d p call at e there g = ap (λ name. asm_sources name (f c)) (sym (e ∙ ap f at)) ∙ ap (asm_sources d) (sym (g ∙ ap f there))

pub asm_outputs : {X : Type 0} (f : X → List ℕ) (words : List X) (three four : X) (i l : List ℕ) → IsCall Asm (map f words) → three ≡ get_or words 3 three → i ≡ f three → four ≡ get_or words 4 four → l ≡ f four → outputs_of Asm (map f words) ≡ asm_targets i l
asm_outputs f [] three four i l call at e there g = absurd call
asm_outputs f (a ∷ []) three four i l call at e there g = no_call Asm (f a) [] (λ (h : 0 ≡ 4). omega arith) call
asm_outputs f (a ∷ b ∷ []) three four i l call at e there g = no_call Asm (f a) (f b ∷ []) (λ (h : 1 ≡ 4). omega arith) call
asm_outputs f (a ∷ b ∷ c ∷ []) three four i l call at e there g = no_call Asm (f a) (f b ∷ f c ∷ []) (λ (h : 2 ≡ 4). omega arith) call
asm_outputs f (a ∷ b ∷ c ∷ x ∷ []) three four i l call at e there g = no_call Asm (f a) (f b ∷ f c ∷ f x ∷ []) (λ (h : 3 ≡ 4). omega arith) call
asm_outputs f (a ∷ b ∷ c ∷ x ∷ y ∷ words) three four i l call at e there g = ap (λ name. asm_targets name (f y)) (sym (e ∙ ap f at)) ∙ ap (asm_targets i) (sym (g ∙ ap f there))

-- the words of a call that runs a netlist, by their places
pub record AreSimWords {X : Type 0} (f : X → List ℕ) (words : List X) (netlist image trace count rows : List ℕ) : Type 0 where
  pub one : X
  pub netlist_at : (one ≡ get_or words 1 one) × (netlist ≡ f one)
  pub two : X
  pub image_at : (two ≡ get_or words 2 two) × (image ≡ f two)
  pub three : X
  pub trace_at : (three ≡ get_or words 3 three) × (trace ≡ f three)
  pub four : X
  pub count_at : (four ≡ get_or words 4 four) × (count ≡ f four)
  pub five : X
  pub rows_at : (five ≡ get_or words 5 five) × (rows ≡ f five)

-- what the words say
pub record IsSimCall {X : Type 0} (f : X → List ℕ) (words : List X) (netlist image trace count rows : List ℕ) : Type 0 where
  pub inputs : inputs_of Sim (map f words) ≡ sim_sources netlist image trace
  pub outputs : outputs_of Sim (map f words) ≡ sim_targets (unwrap_or (count_in count) 0) rows
  pub netlist_name : IsFileName netlist
  pub image_name : IsFileName image
  pub trace_name : IsFileName trace
  pub rows_name : IsFileName rows

pub sim_call : {X : Type 0} (f : X → List ℕ) (words : List X) (netlist image trace count rows : List ℕ) → IsCall Sim (map f words) → AreSimWords f words netlist image trace count rows → IsSimCall f words netlist image trace count rows
sim_call f [] v i t n o call at = absurd call
sim_call f (a ∷ []) v i t n o call at = no_call Sim (f a) [] (λ (h : 0 ≡ 5). omega arith) call
sim_call f (a ∷ b ∷ []) v i t n o call at = no_call Sim (f a) (f b ∷ []) (λ (h : 1 ≡ 5). omega arith) call
sim_call f (a ∷ b ∷ c ∷ []) v i t n o call at = no_call Sim (f a) (f b ∷ f c ∷ []) (λ (h : 2 ≡ 5). omega arith) call
sim_call f (a ∷ b ∷ c ∷ x ∷ []) v i t n o call at = no_call Sim (f a) (f b ∷ f c ∷ f x ∷ []) (λ (h : 3 ≡ 5). omega arith) call
sim_call f (a ∷ b ∷ c ∷ x ∷ y ∷ []) v i t n o call at = no_call Sim (f a) (f b ∷ f c ∷ f x ∷ f y ∷ []) (λ (h : 4 ≡ 5). omega arith) call
sim_call f (a ∷ b ∷ c ∷ x ∷ y ∷ z ∷ words) v i t n o call at =
    let bv : f b ≡ v = sym (at.netlist_at.1 ∙ ap f at.netlist_at.0) in
    let ci : f c ≡ i = sym (at.image_at.1 ∙ ap f at.image_at.0) in
    let xt : f x ≡ t = sym (at.trace_at.1 ∙ ap f at.trace_at.0) in
    let yn : f y ≡ n = sym (at.count_at.1 ∙ ap f at.count_at.0) in
    let zo : f z ≡ o = sym (at.rows_at.1 ∙ ap f at.rows_at.0) in
    let fit = call.1.fitting in
    record {
      inputs = (λ j. sim_sources (bv j) (ci j) (xt j));
      outputs = (λ j. sim_targets (unwrap_or (count_in (yn j)) 0) (zo j));
      netlist_name = subst IsFileName bv fit.0;
      image_name = subst IsFileName ci fit.1.0;
      trace_name = subst IsFileName xt fit.1.1.0;
      rows_name = subst IsFileName zo fit.1.1.1.1.0;
    }

pub goes_map : (P Q : Files → Files → Type 0) → ((old new : Files) → P old new → Q old new) → (a b : Option Files) → Goes P a b → Goes Q a b
goes_map P Q h None None p = tt
goes_map P Q h None (Some b) p = absurd p
goes_map P Q h (Some a) None p = absurd p
goes_map P Q h (Some a) (Some b) p = h a b p

module _ (cards : List Card) where
  pub call_done : {E : Type 0} (command : Command) (result : Result (Unit {0}) E) (words : List (List ℕ)) (sources : List Source) (targets : List Target) (a b : Option Files) → IsCall command words → inputs_of command words ≡ sources → outputs_of command words ≡ targets
      → OnOk result (Goes (FromGood cards Writes sources targets) a b) → OnOk result (Goes (IsDone cards words) a b)
  call_done command (Ok value) words sources targets a b call from to done =
      goes_map _ _ (λ old new h. (command, call, subst (λ s. FromGood cards Writes s (outputs_of command words) old new) (sym from) (subst (λ t. FromGood cards Writes sources t old new) (sym to) h))) a b done
  call_done command (Err fault) words sources targets a b call from to done = done

  pub call_stopped : (command : Command) (result : Result (Unit {0}) Stop) (words : List (List ℕ)) (sources : List Source) (targets : List Target) (a b : Option Files) → IsCall command words → inputs_of command words ≡ sources → outputs_of command words ≡ targets
      → IfErr result (StopsOn cards sources targets a b) → IfErr result (StopsAs cards words a b)
  call_stopped command (Ok value) words sources targets a b call from to stopped = tt
  call_stopped command (Err (Refused Usage)) words sources targets a b call from to stopped = absurd stopped.1
  call_stopped command (Err (Refused (Description judged))) words sources targets a b call from to stopped = (stopped.0, (command, call, subst (λ s. IsDueOf cards s a (Description judged)) (sym from) stopped.1))
  call_stopped command (Err (Refused (Program line kind))) words sources targets a b call from to stopped = (stopped.0, (command, call, subst (λ s. IsDueOf cards s a (Program line kind)) (sym from) stopped.1))
  call_stopped command (Err (Refused (Netlist line kind))) words sources targets a b call from to stopped = (stopped.0, (command, call, subst (λ s. IsDueOf cards s a (Netlist line kind)) (sym from) stopped.1))
  call_stopped command (Err (Refused (Image line kind))) words sources targets a b call from to stopped = (stopped.0, (command, call, subst (λ s. IsDueOf cards s a (Image line kind)) (sym from) stopped.1))
  call_stopped command (Err (Refused (Trace line kind))) words sources targets a b call from to stopped = (stopped.0, (command, call, subst (λ s. IsDueOf cards s a (Trace line kind)) (sym from) stopped.1))
  call_stopped command (Err (Broken trouble)) words sources targets a b call from to stopped =
      goes_map _ _ (λ old new h. (command, call, subst (λ s. IsBegunOn cards s (outputs_of command words) old new) (sym from) (subst (λ t. IsBegunOn cards sources t old new) (sym to) h))) a b stopped

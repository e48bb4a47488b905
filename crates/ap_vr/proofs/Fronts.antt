-- A module as far as its lines have been read: its text, and what it keeps.
use Rattle.std.proofs.Common.{◌≡◌, ℕ, ◌<◌, ◌≤◌, Bool, false, List, [], ◌∷◌, ◌++◌, length, refl, sym, ap, ◌∙◌, arith, append_assoc, append-nil}
use Rattle.std.specs.Prelude.{codes}
use Rattle.std.specs.List.{flat_map, AllByRecursion as Each}
use Rattle.std.specs.Str.{bytes_eq}
use Rattle.std.proofs.lemmas.Grind.{flat_map-append}
use Rattle.ap_net.specs.declared.net.Net.{Net}
use Rattle.ap_net.specs.Names.{IsNetName}
use Rattle.ap_net.specs.Text.{wire_line}
use Rattle.ap_vr.specs.declared.line.NamedAssign.{NamedAssign}
use Rattle.ap_vr.specs.declared.line.NamedNext.{NamedNext}
use Rattle.ap_vr.specs.declared.line.NamedInstance.{NamedInstance}
use Rattle.ap_vr.specs.declared.module.NamedModule.{NamedModule}
use Rattle.ap_vr.specs.declared.place.Part.{Part}
use Rattle.ap_vr.specs.declared.place.Part.TheVariants as part
use Rattle.ap_vr.specs.LineTexts.{IsPort, IsDeclared, IsAssign, IsNext, IsInstance, register_line, named_assign_line, named_always_line, named_instance_line}
use Rattle.ap_vr.specs.Named.{named_head, named_body, named_module_text}
use Rattle.ap_vr.specs.Places.{number}
use Rattle.ap_vr.specs.Reading.{first_line}

-- the text of the lines so far, where this is due
abbrev pub body_front : NamedModule → List ℕ
body_front m = named_head m ++ codes "\n);\n" ++ named_body m

abbrev pub front_text : Part → NamedModule → List ℕ
front_text part.Start m = named_module_text m
front_text part.Clock m = first_line m.name
front_text part.Reset m = first_line m.name ++ codes "  input clk,\n"
front_text part.Ports m = named_head m ++ codes ",\n"
front_text part.Close m = named_head m ++ codes "\n"
front_text part.Wires m = body_front m
front_text part.Regs m = body_front m
front_text part.Assigns m = body_front m
front_text part.Nexts m = body_front m
front_text part.Instances m = body_front m

-- the text where the part is known by its number
pub at_clock : (at : Part) (m : NamedModule) → number at ≡ 1 → front_text at m ≡ first_line m.name
at_clock part.Start m h = absurd (omega (arith, h))
at_clock part.Clock m h = refl
at_clock part.Reset m h = absurd (omega (arith, h))
at_clock part.Ports m h = absurd (omega (arith, h))
at_clock part.Close m h = absurd (omega (arith, h))
at_clock part.Wires m h = absurd (omega (arith, h))
at_clock part.Regs m h = absurd (omega (arith, h))
at_clock part.Assigns m h = absurd (omega (arith, h))
at_clock part.Nexts m h = absurd (omega (arith, h))
at_clock part.Instances m h = absurd (omega (arith, h))

pub at_reset : (at : Part) (m : NamedModule) → number at ≡ 2 → front_text at m ≡ first_line m.name ++ codes "  input clk,\n"
at_reset part.Start m h = absurd (omega (arith, h))
at_reset part.Clock m h = absurd (omega (arith, h))
at_reset part.Reset m h = refl
at_reset part.Ports m h = absurd (omega (arith, h))
at_reset part.Close m h = absurd (omega (arith, h))
at_reset part.Wires m h = absurd (omega (arith, h))
at_reset part.Regs m h = absurd (omega (arith, h))
at_reset part.Assigns m h = absurd (omega (arith, h))
at_reset part.Nexts m h = absurd (omega (arith, h))
at_reset part.Instances m h = absurd (omega (arith, h))

pub at_ports : (at : Part) (m : NamedModule) → number at ≡ 3 → front_text at m ≡ named_head m ++ codes ",\n"
at_ports part.Start m h = absurd (omega (arith, h))
at_ports part.Clock m h = absurd (omega (arith, h))
at_ports part.Reset m h = absurd (omega (arith, h))
at_ports part.Ports m h = refl
at_ports part.Close m h = absurd (omega (arith, h))
at_ports part.Wires m h = absurd (omega (arith, h))
at_ports part.Regs m h = absurd (omega (arith, h))
at_ports part.Assigns m h = absurd (omega (arith, h))
at_ports part.Nexts m h = absurd (omega (arith, h))
at_ports part.Instances m h = absurd (omega (arith, h))

pub at_close : (at : Part) (m : NamedModule) → number at ≡ 4 → front_text at m ≡ named_head m ++ codes "\n"
at_close part.Start m h = absurd (omega (arith, h))
at_close part.Clock m h = absurd (omega (arith, h))
at_close part.Reset m h = absurd (omega (arith, h))
at_close part.Ports m h = absurd (omega (arith, h))
at_close part.Close m h = refl
at_close part.Wires m h = absurd (omega (arith, h))
at_close part.Regs m h = absurd (omega (arith, h))
at_close part.Assigns m h = absurd (omega (arith, h))
at_close part.Nexts m h = absurd (omega (arith, h))
at_close part.Instances m h = absurd (omega (arith, h))

pub at_body : (at : Part) (m : NamedModule) → 5 ≤ number at → front_text at m ≡ body_front m
at_body part.Start m h = absurd (omega (arith, h))
at_body part.Clock m h = absurd (omega (arith, h))
at_body part.Reset m h = absurd (omega (arith, h))
at_body part.Ports m h = absurd (omega (arith, h))
at_body part.Close m h = absurd (omega (arith, h))
at_body part.Wires m h = refl
at_body part.Regs m h = refl
at_body part.Assigns m h = refl
at_body part.Nexts m h = refl
at_body part.Instances m h = refl

-- one more of a list of lines, after others
pub more_text : {X : Type 0} (f : X → List ℕ) (front : List ℕ) (xs : List X) (x : X) → front ++ flat_map f (xs ++ x ∷ []) ≡ (front ++ flat_map f xs) ++ f x
more_text f front xs x = ap (λ t. front ++ t) (flat_map-append f xs (x ∷ []) ∙ ap (λ t. flat_map f xs ++ t) (append-nil (f x))) ∙ sym (append_assoc front (flat_map f xs) (f x))

-- the lines between head and end, in lists of each kind
abbrev pub body_of : List Net → List Net → List NamedAssign → List NamedNext → List NamedInstance → List ℕ
body_of ws rs ds xs is = flat_map wire_line ws ++ flat_map register_line rs ++ flat_map named_assign_line ds ++ flat_map named_always_line xs ++ flat_map named_instance_line is

nil_four : (a : List ℕ) → a ++ [] ++ [] ++ [] ++ [] ≡ a
nil_four a = simp append-nil

nil_three : (a : List ℕ) → a ++ [] ++ [] ++ [] ≡ a
nil_three a = simp append-nil

nil_two : (a : List ℕ) → a ++ [] ++ [] ≡ a
nil_two a = simp append-nil

pub wire_more : (ws : List Net) (n : Net) → body_of (ws ++ n ∷ []) [] [] [] [] ≡ body_of ws [] [] [] [] ++ wire_line n
wire_more ws n = nil_four (flat_map wire_line (ws ++ n ∷ [])) ∙ more_text wire_line [] ws n ∙ ap (λ t. t ++ wire_line n) (sym (nil_four (flat_map wire_line ws)))

pub reg_more : (ws rs : List Net) (n : Net) → body_of ws (rs ++ n ∷ []) [] [] [] ≡ body_of ws rs [] [] [] ++ register_line n
reg_more ws rs n =
    nil_three (flat_map wire_line ws ++ flat_map register_line (rs ++ n ∷ []))
    ∙ more_text register_line (flat_map wire_line ws) rs n
    ∙ ap (λ t. t ++ register_line n) (sym (nil_three (flat_map wire_line ws ++ flat_map register_line rs)))

pub assign_more : (ws rs : List Net) (ds : List NamedAssign) (a : NamedAssign) → body_of ws rs (ds ++ a ∷ []) [] [] ≡ body_of ws rs ds [] [] ++ named_assign_line a
assign_more ws rs ds a =
    nil_two (flat_map wire_line ws ++ flat_map register_line rs ++ flat_map named_assign_line (ds ++ a ∷ []))
    ∙ more_text named_assign_line (flat_map wire_line ws ++ flat_map register_line rs) ds a
    ∙ ap (λ t. t ++ named_assign_line a) (sym (nil_two (flat_map wire_line ws ++ flat_map register_line rs ++ flat_map named_assign_line ds)))

pub next_more : (ws rs : List Net) (ds : List NamedAssign) (xs : List NamedNext) (x : NamedNext) → body_of ws rs ds (xs ++ x ∷ []) [] ≡ body_of ws rs ds xs [] ++ named_always_line x
next_more ws rs ds xs x =
    append-nil (flat_map wire_line ws ++ flat_map register_line rs ++ flat_map named_assign_line ds ++ flat_map named_always_line (xs ++ x ∷ []))
    ∙ more_text named_always_line (flat_map wire_line ws ++ flat_map register_line rs ++ flat_map named_assign_line ds) xs x
    ∙ ap (λ t. t ++ named_always_line x) (sym (append-nil (flat_map wire_line ws ++ flat_map register_line rs ++ flat_map named_assign_line ds ++ flat_map named_always_line xs)))

pub instance_more : (ws rs : List Net) (ds : List NamedAssign) (xs : List NamedNext) (is : List NamedInstance) (i : NamedInstance) → body_of ws rs ds xs (is ++ i ∷ []) ≡ body_of ws rs ds xs is ++ named_instance_line i
instance_more ws rs ds xs is i =
    more_text named_instance_line (flat_map wire_line ws ++ flat_map register_line rs ++ flat_map named_assign_line ds ++ flat_map named_always_line xs) is i

-- a body that grows at its end
pub body_grows : (head body more line : List ℕ) → more ≡ body ++ line → head ++ codes "\n);\n" ++ more ≡ head ++ codes "\n);\n" ++ body ++ line
body_grows head body more line h = ap (λ t. head ++ codes "\n);\n" ++ t) h ∙ sym (append_assoc (head ++ codes "\n);\n") body line)

-- what a module keeps of its lines so far, where this is due
pub record IsFront (at : Part) (top : Bool) (m : NamedModule) : Type 0 where
  pub name : IsNetName m.name
  pub is_top : top ≡ bytes_eq m.name (codes "top")
  pub no_ports : 1 ≤ number at → number at ≤ 2 → m.ports ≡ []
  pub some : (number at ≡ 0 → 0 < length m.ports) × (4 ≤ number at → 0 < length m.ports)
  pub no_wires : 1 ≤ number at → number at ≤ 4 → m.wires ≡ []
  pub no_regs : 1 ≤ number at → number at ≤ 5 → m.regs ≡ []
  pub no_assigns : 1 ≤ number at → number at ≤ 6 → m.assigns ≡ []
  pub no_nexts : 1 ≤ number at → number at ≤ 7 → m.nexts ≡ []
  pub no_instances : 1 ≤ number at → number at ≤ 8 → m.instances ≡ []
  pub ports : Each IsPort m.ports
  pub wires : Each IsDeclared m.wires
  pub regs : Each IsDeclared m.regs
  pub assigns : Each IsAssign m.assigns
  pub nexts : Each IsNext m.nexts
  pub instances : Each IsInstance m.instances
  pub alone : top ≡ false → m.instances ≡ []

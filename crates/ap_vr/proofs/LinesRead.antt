-- Each line is read from its text.
use Rattle.std.proofs.Common.{◌≡◌, ℕ, ◌-◌, Bool, true, false, ◌||◌, not, List, [], ◌∷◌, ◌++◌, length, Some, refl, ap, ◌∙◌, true≢false, ◌&&◌, nat_le}
use Rattle.std.specs.Prelude.{if◌then◌else◌, codes, option_map, option_and_then}
use Rattle.std.specs.Fmt.{decimal}
use Rattle.std.specs.List.{flat_map, list_all, list_any, AllByRecursion as Each}
use Rattle.std.specs.Str.{bytes_eq}
use Rattle.std.proofs.lemmas.Bool.{and_parts, not-true}
use Rattle.ap_bits.specs.Names.{starts_with_letter}
use Rattle.ap_text.specs.Numbers.{number_value}
use Rattle.ap_net.specs.declared.net.Net.{Net}
use Rattle.ap_net.specs.declared.net.Port.{Port}
use Rattle.ap_net.specs.Names.{IsNetName, barred_words, is_name_byte}
use Rattle.ap_net.specs.Text.{range_text, constant_text, wire_line, taken_text, clocked_text}
use Rattle.ap_vr.specs.declared.line.NamedAssign.{NamedAssign}
use Rattle.ap_vr.specs.declared.line.NamedNext.{NamedNext}
use Rattle.ap_vr.specs.declared.line.Connection.{Connection}
use Rattle.ap_vr.specs.declared.line.NamedInstance.{NamedInstance}
use Rattle.ap_vr.specs.declared.line.Line.{Line}
use Rattle.ap_vr.specs.declared.line.Line.TheVariants as line
use Rattle.ap_vr.specs.LineForms.{beside, if_width, if_high, name_in, operand_in, digits_after, join_in, connections_in, right_in, declared_of, declared_in, port_in, input_by, input_in, assign_in, next_in, instance_in, inner_line_in, line_by, line_in}
use Rattle.ap_vr.specs.LineTexts.{IsDeclared, IsPort, IsAssign, IsNext, IsConnection, IsInstance, IsLine, register_line, port_line, right_text, named_assign_line, named_always_line, joined_text, named_instance_line, line_text}
use Rattle.ap_vr.specs.Pieces.{pieces_of}
use Rattle.ap_vr.proofs.Regroup.{in_four, in_five, in_six}
use Rattle.ap_vr.proofs.Pieces.{word_then}
use Rattle.ap_vr.proofs.Words.{name_word, name_read, operand_read, width_read, high_read, value_read, range_pieces, constant_pieces}
use Rattle.ap_vr.proofs.RightsRead.{both_read, right_read}

module_read : (name : List ℕ) → IsNetName name → line_in (pieces_of (line_text (line.Module name))) ≡ Some (line.Module name)
unfolding line_in line_by
module_read name h =
    ap (λ ps. line_in (codes "module" ∷ (32 ∷ []) ∷ ps)) (word_then name 32 (40 ∷ 10 ∷ []) (name_word name h) refl)
    ∙ ap (option_map (λ name. line.Module name)) (name_read name h)

-- a net with its bits, and what ends its line
declared_pieces : (n : Net) (b : ℕ) (rest : List ℕ) → IsDeclared n → is_name_byte b ≡ false → pieces_of (range_text n.width ++ codes " " ++ n.name ++ b ∷ rest) ≡ (91 ∷ []) ∷ decimal (n.width - 1) ∷ (58 ∷ []) ∷ (48 ∷ []) ∷ (93 ∷ []) ∷ (32 ∷ []) ∷ n.name ∷ (b ∷ []) ∷ pieces_of rest
declared_pieces n b rest h other =
    ap pieces_of (in_four (range_text n.width) (codes " ") n.name (b ∷ rest))
    ∙ range_pieces n.width (32 ∷ (n.name ++ b ∷ rest)) h.1
    ∙ ap (λ ps. (91 ∷ []) ∷ decimal (n.width - 1) ∷ (58 ∷ []) ∷ (48 ∷ []) ∷ (93 ∷ []) ∷ (32 ∷ []) ∷ ps) (word_then n.name b rest (name_word n.name h.0) other)

-- a name and a width, where both are read
net_read : (n : Net) → IsDeclared n → beside (name_in n.name) (option_and_then if_high (number_value (decimal (n.width - 1)))) ≡ Some (n.name, n.width)
net_read n h = both_read (name_in n.name) (option_and_then if_high (number_value (decimal (n.width - 1)))) n.name n.width (name_read n.name h.0) (high_read n.width h.1)

wire_read : (n : Net) → IsDeclared n → line_in (pieces_of (wire_line n)) ≡ Some (line.Wire n)
unfolding line_in line_by inner_line_in declared_in
wire_read n h =
    ap (λ ps. line_in ((32 ∷ []) ∷ (32 ∷ []) ∷ codes "wire" ∷ (32 ∷ []) ∷ ps)) (declared_pieces n 59 (10 ∷ []) h refl)
    ∙ ap (λ found. option_map (λ n. line.Wire n) (option_map declared_of found)) (net_read n h)

register_read : (n : Net) → IsDeclared n → line_in (pieces_of (register_line n)) ≡ Some (line.Reg n)
unfolding line_in line_by inner_line_in declared_in
register_read n h =
    ap (λ ps. line_in ((32 ∷ []) ∷ (32 ∷ []) ∷ codes "reg" ∷ (32 ∷ []) ∷ ps)) (declared_pieces n 59 (10 ∷ []) h refl)
    ∙ ap (λ found. option_map (λ n. line.Reg n) (option_map declared_of found)) (net_read n h)

-- a port, by its direction and by what ends its line
abbrev net_of : Port → Net
net_of p = record { name = p.name; width = p.width }

abbrev port_found : Port → Bool → Bool → Line
port_found p output more = line.Port (record { name = p.name; width = p.width; output = output }) more

port_read : (p : Port) (more : Bool) → IsPort p → line_in (pieces_of (port_line p more)) ≡ Some (line.Port p more)
unfolding line_in line_by inner_line_in input_in input_by port_in
port_read p more h = by_case p.output more refl where
  by_case : (output more : Bool) → p.output ≡ output → line_in (pieces_of ((if output then codes "  output " else codes "  input ") ++ range_text p.width ++ codes " " ++ p.name ++ (if more then codes ",\n" else codes "\n"))) ≡ Some (port_found p output more)
  by_case true true e = ap (λ ps. line_in ((32 ∷ []) ∷ (32 ∷ []) ∷ codes "output" ∷ (32 ∷ []) ∷ ps)) (declared_pieces (net_of p) 44 (10 ∷ []) h refl) ∙ ap (option_map (λ (v : List ℕ × ℕ). line.Port (record { name = v.0; width = v.1; output = true }) true)) (net_read (net_of p) h)
  by_case true false e = ap (λ ps. line_in ((32 ∷ []) ∷ (32 ∷ []) ∷ codes "output" ∷ (32 ∷ []) ∷ ps)) (declared_pieces (net_of p) 10 [] h refl) ∙ ap (option_map (λ (v : List ℕ × ℕ). line.Port (record { name = v.0; width = v.1; output = true }) false)) (net_read (net_of p) h)
  by_case false true e = ap (λ ps. line_in ((32 ∷ []) ∷ (32 ∷ []) ∷ codes "input" ∷ (32 ∷ []) ∷ ps)) (declared_pieces (net_of p) 44 (10 ∷ []) h refl) ∙ ap (option_map (λ (v : List ℕ × ℕ). line.Port (record { name = v.0; width = v.1; output = false }) true)) (net_read (net_of p) h)
  by_case false false e = ap (λ ps. line_in ((32 ∷ []) ∷ (32 ∷ []) ∷ codes "input" ∷ (32 ∷ []) ∷ ps)) (declared_pieces (net_of p) 10 [] h refl) ∙ ap (option_map (λ (v : List ℕ × ℕ). line.Port (record { name = v.0; width = v.1; output = false }) false)) (net_read (net_of p) h)

assign_read : (a : NamedAssign) → IsAssign a → line_in (pieces_of (named_assign_line a)) ≡ Some (line.Assign a)
unfolding line_in line_by inner_line_in assign_in
assign_read a h =
    ap (λ ps. line_in ((32 ∷ []) ∷ (32 ∷ []) ∷ codes "assign" ∷ (32 ∷ []) ∷ ps)) (ap pieces_of (in_four a.to (codes " = ") (right_text a.right) (codes ";\n")) ∙ word_then a.to 32 (61 ∷ 32 ∷ (right_text a.right ++ codes ";\n")) (name_word a.to h.0) refl)
    ∙ ap (λ found. option_map (λ a. line.Assign a) (option_map (λ v. record { to = v.0; right = v.1 }) found))
    (both_read (name_in a.to) (right_in (pieces_of (right_text a.right ++ codes ";\n"))) a.to a.right (name_read a.to h.0) (right_read a.right h.1))

-- what a register takes, and what follows
taken_then : (register value rest : List ℕ) → taken_text register value ++ rest ≡ register ++ 32 ∷ 60 ∷ 61 ∷ 32 ∷ (value ++ 59 ∷ rest)
taken_then register value rest = in_five register (codes " <= ") value (codes ";") rest

-- the pieces of such a line before the register's name
abbrev always_lead : List (List ℕ) → List (List ℕ)
always_lead ps = (32 ∷ []) ∷ (32 ∷ []) ∷ codes "always" ∷ (32 ∷ []) ∷ codes "@" ∷ codes "(" ∷ codes "posedge" ∷ (32 ∷ []) ∷ codes "clk" ∷ codes ")" ∷ (32 ∷ []) ∷ codes "if" ∷ (32 ∷ []) ∷ codes "(" ∷ codes "rst" ∷ codes ")" ∷ (32 ∷ []) ∷ ps

abbrev reset_text : NamedNext → List ℕ
reset_text x = constant_text x.width x.reset

always_read : (x : NamedNext) → IsNext x → line_in (pieces_of (named_always_line x)) ≡ Some (line.Always x)
unfolding line_in line_by inner_line_in next_in clocked_text
always_read x h =
    ap (λ ps. line_in (always_lead ps)) (ap pieces_of first ∙ first_pieces)
    ∙ ap (λ found. option_map (λ x. line.Always x) (option_map (λ v. record { register = v.0; width = v.1.0; reset = v.1.1.0; from = v.1.1.1 }) found))
    (both_read (name_in x.register) (beside (option_and_then if_width (number_value (decimal x.width))) (beside (digits_after (100 ∷ decimal x.reset)) (operand_in x.from))) x.register (x.width, (x.reset, x.from)) (name_read x.register h.0)
    (both_read (option_and_then if_width (number_value (decimal x.width))) (beside (digits_after (100 ∷ decimal x.reset)) (operand_in x.from)) x.width (x.reset, x.from) (width_read x.width h.1)
    (both_read (digits_after (100 ∷ decimal x.reset)) (operand_in x.from) x.reset x.from (value_read x.reset h.2) (operand_read x.from h.3)))) where
      first : taken_text x.register (reset_text x) ++ codes " else " ++ taken_text x.register x.from ++ codes "\n" ≡ x.register ++ 32 ∷ 60 ∷ 61 ∷ 32 ∷ (reset_text x ++ 59 ∷ (codes " else " ++ x.register ++ 32 ∷ 60 ∷ 61 ∷ 32 ∷ (x.from ++ 59 ∷ 10 ∷ [])))
      first = in_four (taken_text x.register (reset_text x)) (codes " else ") (taken_text x.register x.from) (codes "\n")
          ∙ taken_then x.register (reset_text x) (codes " else " ++ (taken_text x.register x.from ++ codes "\n"))
          ∙ ap (λ t. x.register ++ 32 ∷ 60 ∷ 61 ∷ 32 ∷ (reset_text x ++ 59 ∷ (codes " else " ++ t))) (taken_then x.register x.from (codes "\n"))

      last_pieces : pieces_of (codes " else " ++ x.register ++ 32 ∷ 60 ∷ 61 ∷ 32 ∷ (x.from ++ 59 ∷ 10 ∷ [])) ≡ (32 ∷ []) ∷ codes "else" ∷ (32 ∷ []) ∷ x.register ∷ (32 ∷ []) ∷ (60 ∷ []) ∷ (61 ∷ []) ∷ (32 ∷ []) ∷ x.from ∷ (59 ∷ []) ∷ (10 ∷ []) ∷ []
      last_pieces = ap (λ ps. (32 ∷ []) ∷ codes "else" ∷ (32 ∷ []) ∷ ps) (word_then x.register 32 (60 ∷ 61 ∷ 32 ∷ (x.from ++ 59 ∷ 10 ∷ [])) (name_word x.register h.0) refl
          ∙ ap (λ ps. x.register ∷ (32 ∷ []) ∷ (60 ∷ []) ∷ (61 ∷ []) ∷ (32 ∷ []) ∷ ps) (word_then x.from 59 (10 ∷ []) (name_word x.from h.3.0) refl))

      first_pieces : pieces_of (x.register ++ 32 ∷ 60 ∷ 61 ∷ 32 ∷ ((reset_text x) ++ 59 ∷ (codes " else " ++ x.register ++ 32 ∷ 60 ∷ 61 ∷ 32 ∷ (x.from ++ 59 ∷ 10 ∷ [])))) ≡ x.register ∷ (32 ∷ []) ∷ (60 ∷ []) ∷ (61 ∷ []) ∷ (32 ∷ []) ∷ decimal x.width ∷ (39 ∷ []) ∷ (100 ∷ decimal x.reset) ∷ (59 ∷ []) ∷ (32 ∷ []) ∷ codes "else" ∷ (32 ∷ []) ∷ x.register ∷ (32 ∷ []) ∷ (60 ∷ []) ∷ (61 ∷ []) ∷ (32 ∷ []) ∷ x.from ∷ (59 ∷ []) ∷ (10 ∷ []) ∷ []
      first_pieces = word_then x.register 32 (60 ∷ 61 ∷ 32 ∷ ((reset_text x) ++ 59 ∷ (codes " else " ++ x.register ++ 32 ∷ 60 ∷ 61 ∷ 32 ∷ (x.from ++ 59 ∷ 10 ∷ [])))) (name_word x.register h.0) refl
          ∙ ap (λ ps. x.register ∷ (32 ∷ []) ∷ (60 ∷ []) ∷ (61 ∷ []) ∷ (32 ∷ []) ∷ ps) (constant_pieces x.width x.reset 59 (codes " else " ++ x.register ++ 32 ∷ 60 ∷ 61 ∷ 32 ∷ (x.from ++ 59 ∷ 10 ∷ [])) h.1 h.2 refl
          ∙ ap (λ ps. decimal x.width ∷ (39 ∷ []) ∷ (100 ∷ decimal x.reset) ∷ (59 ∷ []) ∷ ps) last_pieces)

-- connections, and the end of their line
abbrev connection_pieces : List Connection → List (List ℕ)
connection_pieces [] = (41 ∷ []) ∷ (59 ∷ []) ∷ (10 ∷ []) ∷ []
connection_pieces (c ∷ cs) = (44 ∷ []) ∷ (32 ∷ []) ∷ (46 ∷ []) ∷ c.port ∷ (40 ∷ []) ∷ c.net ∷ (41 ∷ []) ∷ connection_pieces cs

joined_pieces : (cs : List Connection) → Each IsConnection cs → pieces_of (flat_map joined_text cs ++ codes ");\n") ≡ connection_pieces cs
joined_pieces [] h = refl
joined_pieces (c ∷ cs) h =
    ap (λ t. (44 ∷ []) ∷ (32 ∷ []) ∷ (46 ∷ []) ∷ pieces_of t) (in_six c.port (codes "(") c.net (codes ")") (flat_map joined_text cs) (codes ");\n"))
    ∙ ap (λ ps. (44 ∷ []) ∷ (32 ∷ []) ∷ (46 ∷ []) ∷ ps) (word_then c.port 40 (c.net ++ 41 ∷ (flat_map joined_text cs ++ codes ");\n")) (name_word c.port h.0.0) refl
    ∙ ap (λ ps. c.port ∷ (40 ∷ []) ∷ ps) (word_then c.net 41 (flat_map joined_text cs ++ codes ");\n") (name_word c.net h.0.1.0) refl
    ∙ ap (λ ps. c.net ∷ (41 ∷ []) ∷ ps) (joined_pieces cs h.1)))

joins_read : (cs : List Connection) → Each IsConnection cs → connections_in (connection_pieces cs) ≡ Some cs
unfolding connections_in
joins_read [] h = refl
joins_read (c ∷ cs) h =
    ap (option_map (λ (v : Connection × List Connection). v.0 ∷ v.1)) (both_read (join_in c.port c.net) (connections_in (connection_pieces cs)) c cs
    (ap (option_map (λ (v : List ℕ × List ℕ). record { port = v.0; net = v.1 })) (both_read (name_in c.port) (operand_in c.net) c.port c.net (name_read c.port h.0.0) (operand_read c.net h.0.1)))
    (joins_read cs h.1))

-- neither of two tests that fail together
neither : (x y : Bool) → (x || y) ≡ false → (x ≡ false) × (y ≡ false)
neither true y h = absurd (true≢false h)
neither false y h = (refl, h)

-- a name is none of the words with which the other lines begin
pub record IsFreeWord (name : List ℕ) : Type 0 where
  pub input : bytes_eq name (codes "input") ≡ false
  pub output : bytes_eq name (codes "output") ≡ false
  pub wire : bytes_eq name (codes "wire") ≡ false
  pub reg : bytes_eq name (codes "reg") ≡ false
  pub assign : bytes_eq name (codes "assign") ≡ false
  pub always : bytes_eq name (codes "always") ≡ false

free_word : (name : List ℕ) → IsNetName name → IsFreeWord name
free_word name h =
    let c = (and_parts (starts_with_letter name && list_all is_name_byte name && nat_le (length name) 100) (not (list_any (bytes_eq name) barred_words)) h).1 in
    let none : list_any (bytes_eq name) barred_words ≡ false = not-true (list_any (bytes_eq name) barred_words) c in
    let r = neither (bytes_eq name (codes "module")) _ none in
    let r = neither (bytes_eq name (codes "endmodule")) _ r.1 in
    let input = neither (bytes_eq name (codes "input")) _ r.1 in
    let output = neither (bytes_eq name (codes "output")) _ input.1 in
    let wire = neither (bytes_eq name (codes "wire")) _ output.1 in
    let reg = neither (bytes_eq name (codes "reg")) _ wire.1 in
    let assign = neither (bytes_eq name (codes "assign")) _ reg.1 in
    let always = neither (bytes_eq name (codes "always")) _ assign.1 in
    record { input = input.0; output = output.0; wire = wire.0; reg = reg.0; assign = assign.0; always = always.0 }

-- an inner line that begins with another word is an instance
other_inner : (name : List ℕ) (ps : List (List ℕ)) → IsFreeWord name → inner_line_in name ps ≡ option_map (λ i. line.Instance i) (instance_in ps)
unfolding inner_line_in
other_inner name ps free = rw (free.input, free.output, free.wire, free.reg, free.assign, free.always) refl

abbrev instance_pieces : NamedInstance → List (List ℕ)
instance_pieces i = (32 ∷ []) ∷ (32 ∷ []) ∷ i.module ∷ (32 ∷ []) ∷ i.name ∷ (32 ∷ []) ∷ codes "(" ∷ codes "." ∷ codes "clk" ∷ codes "(" ∷ codes "clk" ∷ codes ")" ∷ codes "," ∷ codes " " ∷ codes "." ∷ codes "rst" ∷ codes "(" ∷ codes "rst" ∷ codes ")" ∷ connection_pieces i.connections

abbrev instance_end : NamedInstance → List ℕ
instance_end i = flat_map joined_text i.connections ++ codes ");\n"

instance_read : (i : NamedInstance) → IsInstance i → line_in (pieces_of (named_instance_line i)) ≡ Some (line.Instance i)
unfolding line_in line_by instance_in
instance_read i h =
    ap line_in whole
    ∙ other_inner i.module (instance_pieces i) (free_word i.module h.1)
    ∙ ap (λ found. option_map (λ i. line.Instance i) (option_map (λ v. record { «module» = v.0; name = v.1.0; connections = v.1.1 }) found))
    (both_read (name_in i.module) (beside (name_in i.name) (connections_in (connection_pieces i.connections))) i.module (i.name, i.connections) (name_read i.module h.1)
    (both_read (name_in i.name) (connections_in (connection_pieces i.connections)) i.name i.connections (name_read i.name h.0) (joins_read i.connections h.2))) where
      whole : pieces_of (named_instance_line i) ≡ (instance_pieces i)
      whole =
          ap (λ t. (32 ∷ []) ∷ (32 ∷ []) ∷ pieces_of t) (in_six i.module (codes " ") i.name (codes " (.clk(clk), .rst(rst)") (flat_map joined_text i.connections) (codes ");\n"))
          ∙ ap (λ ps. (32 ∷ []) ∷ (32 ∷ []) ∷ ps) (word_then i.module 32 (i.name ++ (codes " (.clk(clk), .rst(rst)" ++ instance_end i)) (name_word i.module h.1) refl)
          ∙ ap (λ ps. (32 ∷ []) ∷ (32 ∷ []) ∷ i.module ∷ (32 ∷ []) ∷ ps) (word_then i.name 32 (codes "(.clk(clk), .rst(rst)" ++ instance_end i) (name_word i.name h.0) refl)
          ∙ ap (λ ps. (32 ∷ []) ∷ (32 ∷ []) ∷ i.module ∷ (32 ∷ []) ∷ i.name ∷ (32 ∷ []) ∷ codes "(" ∷ codes "." ∷ codes "clk" ∷ codes "(" ∷ codes "clk" ∷ codes ")" ∷ codes "," ∷ codes " " ∷ codes "." ∷ codes "rst" ∷ codes "(" ∷ codes "rst" ∷ codes ")" ∷ ps) (joined_pieces i.connections h.2)

-- the pieces of a line's text give the line
pub line_read : (x : Line) → IsLine x → line_in (pieces_of (line_text x)) ≡ Some x
unfolding line_in line_by inner_line_in input_in input_by
line_read (line.Module name) h = module_read name h
line_read line.Clock h = refl
line_read line.Reset h = refl
line_read (line.Port p more) h = port_read p more h
line_read line.Close h = refl
line_read (line.Wire n) h = wire_read n h
line_read (line.Reg n) h = register_read n h
line_read (line.Assign a) h = assign_read a h
line_read (line.Always x) h = always_read x h
line_read (line.Instance i) h = instance_read i h
line_read line.End h = refl

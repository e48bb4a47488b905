-- The instructions of a stage, each with the nets of its locals, and the ports that they use.
use Rattle.std.specs.Prelude.{◌≡◌, ◌≢◌, ℕ, ◌<◌, ◌==◌, ◌++◌, IfSome, List, [], ◌∷◌, Option, Some, None, filter_map, find, length, option_map, slice_get}
use Rattle.std.specs.List.{AllByRecursion as Each}
use Rattle.std.specs.Option.{option_map_or}
use Rattle.ap_desc.specs.Designs.{IsArg, width_at}
use Rattle.ap_net.specs.declared.cell.Wire.{Wire}
use Rattle.ap_net.specs.Cells.{IsNet}
use Rattle.ap_net.specs.Draft.{Draft}
use Rattle.ap_net.specs.Pending.{IsFrom}
use Rattle.ap_net.specs.Readings.{Carries, Reading}
use Rattle.ap_net.specs.Late.{Reads}
use Rattle.ap_stage.specs.declared.node.Course.{Course}
use Rattle.ap_stage.specs.declared.node.PortUse.{PortUse}
use Rattle.ap_stage.specs.declared.offer.Offer.{Offer}
use Rattle.ap_stage.specs.declared.source.Ground.{Ground}
use Rattle.ap_stage.specs.declared.user.Handed.{Handed}
use Rattle.ap_stage.specs.declared.user.Part.{Part}
use Rattle.ap_stage.specs.declared.user.Part.TheVariants as part
use Rattle.ap_stage.specs.Rows.{AreClosed, AreLines, AreMade, Keeps, MakesNone}
use Rattle.ap_stage.specs.Sources.{IsRow, LieIn, source_numbers}
use Rattle.ap_stage.specs.Trees.{IsShallow}
use Rattle.ap_stage.specs.Users.{CanAsk, FitsHanded, args_of, handed_in, handed_value}

-- the line of an instruction that uses a port, if one does
abbrev pub use_of : ℕ → Course → Option PortUse
use_of port c = find (λ (u : PortUse). u.port == port) c.uses

-- the instructions that use a port, each with its line
abbrev pub users_of : ℕ → List Course → List (Course × PortUse)
users_of port courses = filter_map (λ (c : Course). option_map (λ (u : PortUse). (c, u)) (use_of port c)) courses

-- what the line names is there, and no line without a port makes its local
pub record IsUse (c : Course) (u : PortUse) : Type 0 where
  pub args : Each (IsArg (length c.scope.widths) c.scope.fields) (args_of u.asked)
  pub local : u.local < length c.scope.widths
  pub apart : MakesNone c.lines u.local

-- no two lines of the instruction that use ports make one local
pub record AreUses (c : Course) : Type 0 where
  pub each : Each (IsUse c) c.uses
  pub apart : (j k : ℕ) (one other : PortUse) → slice_get c.uses j ≡ Some one → slice_get c.uses k ≡ Some other → one.local ≡ other.local → j ≡ k

-- An instruction in a stage, whose row has the nets that can be had by now. No `? :` stands between them and registers, inputs and the
-- outputs of instances.
pub record IsCourse (d : Draft) (ground : Ground) (c : Course) : Type 0 where
  pub cond : IsNet d.nets c.cond
  pub one_bit : c.cond.width ≡ 1
  pub fields : LieIn ground.word.width c.scope
  pub row : IsRow d.nets c.scope c.row.items
  pub lines : AreLines ground c.scope c.lines
  pub uses : AreUses c
  pub made : AreMade d ground c.scope c.row.items c.lines
  pub closed : AreClosed c.row.items c.lines (length c.lines)
  pub low : Each (IsShallow d 0) (source_numbers ground c.row.items)

-- the numbers of the nets of an instruction and of its stage, and of those of all instructions
abbrev pub course_numbers : Ground → Course → List ℕ
course_numbers ground c = c.cond.number ∷ source_numbers ground c.row.items

abbrev pub courses_numbers : Ground → List Course → List ℕ
courses_numbers ground [] = []
courses_numbers ground (c ∷ courses) = course_numbers ground c ++ courses_numbers ground courses

-- What is handed in in.

-- a user hands something in for the part, with so many bits
pub record FitsPart (ground : Ground) (w : ℕ) (p : Part) (user : Course × PortUse) : Type 0 where
  pub given : Handed
  pub is : handed_in user.1.asked p ≡ Some given
  pub fits : FitsHanded ground user.0.scope w given

-- the operation of a user has a number of s bits; its operands and its local have the unit's width
pub record FitsUnit (ground : Ground) (s w : ℕ) (user : Course × PortUse) : Type 0 where
  pub op : FitsPart ground s part.Operation user
  pub first : FitsPart ground w part.First user
  pub second : FitsPart ground w part.Second user
  pub result : width_at (λ (width : ℕ). width) user.0.scope.widths user.1.local ≡ w

-- the index of a user has so many bits, and its local those of what is read
pub record FitsRead (ground : Ground) (bits w : ℕ) (user : Course × PortUse) : Type 0 where
  pub index : FitsPart ground bits part.First user
  pub result : width_at (λ (width : ℕ). width) user.0.scope.widths user.1.local ≡ w

-- the value of what a user hands in for a part
abbrev pub part_value : Reading → Ground → Course × PortUse → Part → ℕ
part_value r ground user p = option_map_or (handed_value r ground user.0.scope user.0.row.items) (handed_in user.1.asked p) 0

-- this is offered for a user, and no `? :` stands before it
pub record IsOfferFor (d : Draft) (ground : Ground) (p : Part) (w : ℕ) (user : Course × PortUse) (o : Offer) : Type 0 where
  pub cond_is : o.cond ≡ user.0.cond
  pub net : Carries d w (λ r x. x ≡ part_value r ground user p) o.net
  pub low : IsShallow d 0 o.net.number

-- this is offered for the users, in their order
abbrev pub AreOffersFor : Draft → Ground → Part → ℕ → List (Course × PortUse) → List Offer → Type 0
AreOffersFor d ground p w [] [] = Unit {0}
AreOffersFor d ground p w [] (o ∷ offers) = ⊥
AreOffersFor d ground p w (user ∷ users) [] = ⊥
AreOffersFor d ground p w (user ∷ users) (o ∷ offers) = IsOfferFor d ground p w user o × AreOffersFor d ground p w users offers

-- both nets are among these, or came
pub record IsOfferFrom (from : List ℕ) (old new : Draft) (o : Offer) : Type 0 where
  pub cond : IsFrom from old new o.cond.number
  pub net : IsFrom from old new o.net.number

-- What these users hand in was added to what is offered. What came reads these nets alone.
pub record AddsOffers (from : List ℕ) (a b : Draft) (ground : Ground) (p : Part) (w : ℕ) (users : List (Course × PortUse)) (old new : List Offer) : Type 0 where
  pub more : List Offer
  pub added : new ≡ old ++ more
  pub are : AreOffersFor b ground p w users more
  pub reads : Reads from a b
  pub results : Each (IsOfferFrom from a b) more

-- all users' operands have nets
abbrev pub CanServe : List (Course × PortUse) → Type 0
CanServe users = Each (λ (user : Course × PortUse). CanAsk user.0.row.items user.1.asked) users

-- What is given.

-- the local of the line that uses the port has so many bits
abbrev pub IsResultWide : ℕ → ℕ → Course → Type 0
IsResultWide w port c = IfSome (use_of port c) (λ u. width_at (λ (width : ℕ). width) c.scope.widths u.local ≡ w)

-- the local of the line that uses the port has no net
abbrev pub IsUnserved : ℕ → Course → Type 0
IsUnserved port c = IfSome (use_of port c) (λ u. slice_get c.row.items u.local ≡ Some None)

-- the local of the line that uses the port has this net
abbrev pub HasResult : ℕ → Wire → Course → Type 0
HasResult port y c = IfSome (use_of port c) (λ u. slice_get c.row.items u.local ≡ Some (Some y))

-- no line of an instruction that uses the port makes this local, and none without a port
pub record IsElsewhere (port : ℕ) (c : Course) (local : ℕ) : Type 0 where
  pub used : IfSome (use_of port c) (λ u. local ≢ u.local)
  pub lines : MakesNone c.lines local

-- The instruction is the same but for its row, which keeps its nets. Only the local of the port's result got one, and those that lines
-- without a port make.
pub record GoesOn (port : ℕ) (old new : Course) : Type 0 where
  pub cond : new.cond ≡ old.cond
  pub scope : new.scope ≡ old.scope
  pub lines : new.lines ≡ old.lines
  pub uses : new.uses ≡ old.uses
  pub keeps : Keeps old.row.items new.row.items
  pub others : (local : ℕ) → IsElsewhere port old local → slice_get new.row.items local ≡ slice_get old.row.items local

abbrev pub GoOn : ℕ → List Course → List Course → Type 0
GoOn port [] [] = Unit {0}
GoOn port (old ∷ olds) (new ∷ news) = GoesOn port old new × GoOn port olds news
GoOn port _ _ = ⊥

-- the instruction is the same but for its row, which keeps its nets
pub record IsSame (old new : Course) : Type 0 where
  pub cond : new.cond ≡ old.cond
  pub scope : new.scope ≡ old.scope
  pub lines : new.lines ≡ old.lines
  pub uses : new.uses ≡ old.uses
  pub keeps : Keeps old.row.items new.row.items

abbrev pub AreSame : List Course → List Course → Type 0
AreSame [] [] = Unit {0}
AreSame (old ∷ olds) (new ∷ news) = IsSame old new × AreSame olds news
AreSame _ _ = ⊥

-- the condition of this user is 1, and no other user's
pub record IsOnlyUser (r : Reading) (users : List (Course × PortUse)) (place : ℕ) : Type 0 where
  pub on : (user : Course × PortUse) → slice_get users place ≡ Some user → r.read user.0.cond.number ≡ 1
  pub alone : (other : ℕ) (one : Course × PortUse) → slice_get users other ≡ Some one → r.read one.0.cond.number ≡ 1 → other ≡ place

-- where the condition of one user is 1 and no other user's, x is the value of what this user hands in
abbrev pub HandsIn : Ground → List (Course × PortUse) → Part → Reading → ℕ → Type 0
HandsIn ground users p r x = (place : ℕ) (user : Course × PortUse) → slice_get users place ≡ Some user → IsOnlyUser r users place → x ≡ part_value r ground user p

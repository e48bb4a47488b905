-- Instructions that add a field of 8 bits to itself, in a stage of a word alone.
use Rattle.std.specs.Prelude.{◌≡◌, [], ◌∷◌, None, codes}
use Rattle.ap_desc.specs.declared.design.Arg.TheVariants as arg
use Rattle.ap_desc.specs.declared.design.Field.{Field}
use Rattle.ap_net.specs.declared.cell.Wire.{Wire}
use Rattle.ap_net.specs.Cells.{IsNet}
use Rattle.ap_net.specs.Draft.{Draft}
use Rattle.ap_stage.specs.declared.node.Course.{Course}
use Rattle.ap_stage.specs.declared.node.PortUse.{PortUse}
use Rattle.ap_stage.specs.declared.source.Ground.{Ground}
use Rattle.ap_stage.specs.declared.user.Asked.TheVariants as asked
use Rattle.ap_stage.specs.Trees.{IsShallow}

-- the stage has this word, which is its address too, and neither registers nor inputs
pub record IsWordGround (word : Wire) (ground : Ground) : Type 0 where
  pub word_is : ground.word ≡ word
  pub place : ground.place ≡ word
  pub link : ground.link ≡ word
  pub regs : ground.regs ≡ []
  pub inputs : ground.inputs ≡ []

-- the word has 8 bits, and no `? :` stands before it
pub record HasWord (d : Draft) (word : Wire) : Type 0 where
  pub net : IsNet d.nets word
  pub wide : word.width ≡ 8
  pub low : IsShallow d 0 word.number

-- the field, and the sum of it and itself by the unit 0, which is local 0
abbrev pub whole_field : Field
whole_field = record { name = codes "f"; width = 8; low = 0 }

abbrev pub doubled : PortUse
doubled = record { port = 0; asked = asked.Operate (record { op = 0; a = arg.Field 0; b = arg.Field 0 }); local = 0 }

-- the instruction has this condition, and its one line is that sum
pub record IsDoubling (cond : Wire) (c : Course) : Type 0 where
  pub cond_is : c.cond ≡ cond
  pub fields : c.scope.fields ≡ whole_field ∷ []
  pub widths : c.scope.widths ≡ 8 ∷ []
  pub lines : c.lines ≡ []
  pub uses : c.uses ≡ doubled ∷ []
  pub row : c.row.items ≡ None ∷ []

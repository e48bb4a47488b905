-- The memories and inputs that a processor is run on.
use Rattle.std.specs.Prelude.{◌≢◌, ◌≤◌, ℕ, ◌&&◌, not, Bool, true, List, [], ◌∷◌, map, codes}
use Rattle.std.specs.List.{AllByRecursion as Each, list_any}
use Rattle.std.specs.Str.{bytes_eq}
use Rattle.ap_image.specs.declared.shape.MemShape.{MemShape}

-- the bits of a code address and of a code word, the data memories, and the bits of each input port
pub record Shape : Type 0 where
  pub code_address : ℕ
  pub code_width : ℕ
  pub mems : List MemShape
  pub inputs : List ℕ

-- the shape with these parts
abbrev pub shape_with : ℕ → ℕ → List MemShape → List ℕ → Shape
shape_with address width mems inputs = record { code_address = address; code_width = width; mems = mems; inputs = inputs }

-- no name stands twice
abbrev pub AreDistinct : List (List ℕ) → Type 0
AreDistinct [] = Unit {0}
AreDistinct (name ∷ names) = Each (λ other. other ≢ name) names × AreDistinct names

-- what every shape keeps: the names of its memories differ, and none is that of the code memory
pub record IsShape (shape : Shape) : Type 0 where
  pub distinct : AreDistinct (map (λ (m : MemShape). m.name) shape.mems)
  pub apart : Each (λ (m : MemShape). m.name ≢ codes "code") shape.mems

-- its words and inputs have at most 64 bits
pub record IsNarrow (shape : Shape) : Type 0 where
  pub code : shape.code_width ≤ 64
  pub mems : Each (λ (m : MemShape). m.width ≤ 64) shape.mems
  pub inputs : Each (λ width. width ≤ 64) shape.inputs

-- the memory has this name
abbrev pub is_mem_named : List ℕ → MemShape → Bool
is_mem_named name mem = bytes_eq name mem.name

-- no name of these memories stands twice, and none is that of the code memory
abbrev pub are_mems_named : List MemShape → Bool
are_mems_named [] = true
are_mems_named (mem ∷ mems) =
    not (bytes_eq mem.name (codes "code")) && not (list_any (is_mem_named mem.name) mems) && are_mems_named mems

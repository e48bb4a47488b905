mod Regroup
pub mod Pieces
mod Words
pub mod Operands
pub mod Afters
pub mod Joins
mod RightsRead
mod LinesRead
pub mod LineFound
pub mod TextLines
mod Fronts
mod Grown
pub mod NextLine
pub mod ModuleRead
pub mod TextRead
pub mod NameTables
pub mod NetLists
pub mod FirstLines
pub mod Scoping
pub mod Marks
pub mod InTurn
pub mod FirstFaults
pub mod Numbers
pub mod Rules
pub mod Differing
pub mod Declaring
pub mod DrivenOnce
pub mod FittingCells
pub mod BuiltLines
pub mod BuiltInstances
pub mod BuiltModule
pub mod BuiltText
pub mod BuiltNetlist
pub mod BuildSteps
pub mod WholeLines
pub mod ModuleLines
pub mod OneReading
pub mod NamedOf
pub mod NamedBack
pub mod NamedNetlist
pub mod NamedRules
pub mod NamedKnown
pub mod NamedDriven
pub mod NamedFaultless

pub mod FindingLemmas
pub mod OperandLemmas
pub mod OperandRows
pub mod PartLemmas
pub mod TypingLemmas
pub mod TypedUnits

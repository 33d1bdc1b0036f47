pub mod Names
pub mod Placing
pub mod Agreeing
pub mod Following
pub mod Mapping
pub mod Carrying
pub mod CommentLemmas
pub mod RemarkLemmas
pub mod PositionLemmas
pub mod SkeletonLemmas
pub mod Seen
pub mod RefusalLemmas
pub mod ShortPieces
pub mod ShortRemarks
pub mod OperandLemmas
pub mod FormLemmas
pub mod SpellingLemmas
pub mod ShortLineLemmas
pub mod ProperLemmas
pub mod ItemLemmas
mod VariableLemmas
pub mod MapLemmas
pub mod SizeLemmas
mod BuiltLemmas
pub mod DeckLemmas
pub mod RewriteLemmas
pub mod StatementLemmas
pub mod CardCount
pub mod ConversionLemmas
pub mod HeadingLemmas
mod TypedForms
mod TypedNames
mod TypedParts
mod TypedLemmas

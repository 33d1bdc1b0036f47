pub mod MergingLemmas
pub mod NestedLemmas
pub mod TextLemmas
pub mod DeclaredLemmas
pub mod NoteLemmas
pub mod Grouping
pub mod Rows
pub mod ConstantLemmas

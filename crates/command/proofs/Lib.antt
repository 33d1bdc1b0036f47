pub mod AnswerLemmas
pub mod SayLemmas
pub mod TopLemmas
pub mod HeadingLemmas
pub mod PrintLemmas
pub mod FileLemmas

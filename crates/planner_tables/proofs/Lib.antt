pub mod SpliceLemmas
pub mod StepLemmas
pub mod ChangeLemmas
pub mod FigureLemmas
pub mod QuestionLemmas

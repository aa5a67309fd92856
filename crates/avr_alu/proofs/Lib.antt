pub mod BitLemmas
pub mod FlagLemmas
pub mod SumLemmas
pub mod WordLemmas
pub mod OneLemmas
pub mod MulLemmas

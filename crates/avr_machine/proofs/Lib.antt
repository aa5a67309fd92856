pub mod BankLemmas
pub mod EffectLaws
pub mod ReadBack

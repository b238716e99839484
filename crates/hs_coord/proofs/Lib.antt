pub mod BitLemmas
pub mod FollowingLemmas
pub mod KeptLemmas
pub mod OpenLemmas
pub mod SettledLemmas
pub mod OrderlyLemmas

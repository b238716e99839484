pub mod Claims
pub mod Pages
pub mod Rising
pub mod Ready
pub mod Pairs
pub mod PairLaws

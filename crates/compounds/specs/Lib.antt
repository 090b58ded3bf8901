pub mod Halves
pub mod Pairs
pub mod Twists
pub mod PairLaws
pub mod TwistLaws
pub mod DualLaws

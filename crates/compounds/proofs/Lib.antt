pub mod FirstHalf
pub mod PairNumbers

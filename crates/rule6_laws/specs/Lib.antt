pub mod Laws
pub mod Examples
pub mod Stable
pub mod PairLaws
pub mod Recompose

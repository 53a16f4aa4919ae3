pub mod OpenLaws
pub mod FileableLaws

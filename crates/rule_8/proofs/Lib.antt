pub mod RuleLaws
pub mod SetLaws

pub mod OutsideLaws
pub mod FlagLaws
pub mod RespellingLaws

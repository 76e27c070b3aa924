pub mod TurnLaws
pub mod RuleLaws
pub mod Answering
pub mod Loop
pub mod Ending
pub mod MarkLaws

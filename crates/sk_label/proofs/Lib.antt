pub mod RuleLaws
pub mod CarryLaws
pub mod QuietLaws
pub mod SpaceMarks

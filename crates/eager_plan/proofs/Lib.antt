pub mod MarkLaws
pub mod ChosenLaws
pub mod PlanLaws

pub mod NameLemmas
pub mod LoadLemmas
pub mod PlanLemmas
pub mod ServeLemmas
pub mod RowLemmas
pub mod RouteLemmas

pub mod BudgetLaws

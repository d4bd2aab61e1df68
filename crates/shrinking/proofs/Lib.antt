mod Switching
mod Budgets

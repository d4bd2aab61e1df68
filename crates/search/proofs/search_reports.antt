mod Appended
mod OutcomeTexts
mod Reported

mod AlongTexts
pub mod Zeros

mod MemberLaws
mod Whole
mod Promises

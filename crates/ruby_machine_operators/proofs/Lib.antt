mod Choices
mod Resolution
